pub mod Added
pub mod Asked
pub mod Called
