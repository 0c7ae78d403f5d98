pub mod Delay
pub mod Order
pub mod Listed
