pub mod Session
pub mod Held
