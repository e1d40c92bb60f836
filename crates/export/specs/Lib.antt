pub mod Result
pub mod Stages
