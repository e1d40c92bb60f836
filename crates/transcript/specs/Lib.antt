pub mod Journal
pub mod Blocks
