pub mod Handled
pub mod Output
pub mod Parts
