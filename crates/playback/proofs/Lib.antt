pub mod Arrays
pub mod Called
pub mod Cards
pub mod Loop
pub mod New
pub mod Record
