pub mod Orders
pub mod Accepts
pub mod Drafted
pub mod Listed
pub mod Readings
pub mod Numbers
pub mod Planned
pub mod Runs
