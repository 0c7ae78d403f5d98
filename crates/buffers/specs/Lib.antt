pub mod Buffer
pub mod Joint
pub mod Places
pub mod Pooled
pub mod Queues
pub mod Runs
pub mod PoolLaws
pub mod QueueLaws
