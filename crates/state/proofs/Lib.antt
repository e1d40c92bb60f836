-- a list in parts of one width
pub mod Parts
-- the queues of the struct
pub mod Queues
-- calls of make, and the replica beside a refused one
pub mod Called
pub mod Blank
