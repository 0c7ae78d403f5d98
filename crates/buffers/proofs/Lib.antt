pub mod Calls
pub mod Placing
pub mod Handing
pub mod Classes
pub mod QueueTable
pub mod PoolCalls
mod Leading
mod RunLaws
