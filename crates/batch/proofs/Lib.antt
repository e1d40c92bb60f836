pub mod Lists
pub mod Stable
pub mod Agree
