pub mod Forms
pub mod Lines
pub mod Readers
pub mod Tables
pub mod Sheets
pub mod Parts
pub mod Runs
pub mod Plans
