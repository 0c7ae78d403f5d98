pub mod Tables
pub mod Held
pub mod Sheets
pub mod Plans
