pub mod Numbers
pub mod Examples
pub mod Units
pub mod Edges
pub mod Refusals
pub mod Polls
pub mod Strangers
pub mod TwoRuns
