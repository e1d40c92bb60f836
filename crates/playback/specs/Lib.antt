pub mod Arrays
pub mod Calls
