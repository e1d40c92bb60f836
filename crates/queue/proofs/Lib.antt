-- the count of a group, and its queue by that count
pub mod Counts
-- a row keeps its request; the places that rows stand for
pub mod Rows
-- the pending requests of all groups copied
pub mod Copies
-- the rows of one group lent
pub mod Lent
