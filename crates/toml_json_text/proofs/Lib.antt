pub mod PartsInTurn
mod WorkedLayouts
