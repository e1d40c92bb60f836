pub mod Places
pub mod Fed
pub mod Written
pub mod Reached
pub mod Instances
pub mod Brought
pub mod Checked
