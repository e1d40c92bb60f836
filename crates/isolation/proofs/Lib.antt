pub mod Steps
pub mod Calls
pub mod Isolation
pub mod TwoRuns
