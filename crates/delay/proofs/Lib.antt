pub mod Sums
pub mod Grows
pub mod Found
