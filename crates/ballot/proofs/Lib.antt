pub mod Bits
pub mod Heard
pub mod Answers
