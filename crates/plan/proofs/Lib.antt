mod Lists
mod Room
pub mod Sheets
pub mod Only
mod Passing
