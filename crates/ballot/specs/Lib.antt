pub mod Sets
pub mod Ballot
