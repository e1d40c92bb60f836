pub mod Accounts
pub mod Same
pub mod Unit
-- what is supposed can be met
pub mod Structs
pub mod Lives
pub mod Instances
pub mod Edges
pub mod Isolation
pub mod Journal
pub mod Played
-- refusal numbers
pub mod Numbers
