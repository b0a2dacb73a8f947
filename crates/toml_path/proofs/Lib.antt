pub mod StepsAreFound
pub mod ValuesAreFound
