pub mod Whole
pub mod Numbers
pub mod Output
pub mod Block
pub mod Fits
pub mod Cuts
pub mod Instances
