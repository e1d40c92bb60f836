pub mod Life
pub mod Unit
pub mod Isolation
pub mod Journal
