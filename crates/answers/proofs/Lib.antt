mod Order
mod Distinct
mod OneReading
pub mod OneAnswer
mod Printing
