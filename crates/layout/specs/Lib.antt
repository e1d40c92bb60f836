pub mod Number
pub mod Layout
