pub mod Benches
pub mod Carried
pub mod SetUps
