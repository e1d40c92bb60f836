pub mod Asked
pub mod Written
pub mod Handled
pub mod Sends
pub mod Visited
pub mod Group
pub mod Called
