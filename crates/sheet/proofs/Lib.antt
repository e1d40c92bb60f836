pub mod Computed
pub mod Sheets
pub mod Numbers
