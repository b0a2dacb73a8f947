pub mod Printed
pub mod Fronts
pub mod Run
