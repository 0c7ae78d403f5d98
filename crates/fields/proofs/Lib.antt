mod Table
pub mod Checks
