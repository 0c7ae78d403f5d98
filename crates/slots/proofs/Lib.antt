pub mod Sums
mod Clocks
mod Weights
mod Invariant
mod NoLate
mod Room
pub mod Lookups
mod AfterRelease
mod Onward
mod AfterRun
pub mod Placing
pub mod Holds
pub mod Determines
