pub mod Numbers
pub mod FloatText
