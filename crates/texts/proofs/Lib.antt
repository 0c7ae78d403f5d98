pub mod Decimal
pub mod Fields
pub mod Unique
pub mod OfForms
pub mod Starting
pub mod MapErr
pub mod Books
