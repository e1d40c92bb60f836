pub mod State
pub mod Made
