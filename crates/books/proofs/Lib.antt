mod Checks
mod Listing
mod Lowest
pub mod Places
