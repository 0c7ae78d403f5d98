pub mod Entries
pub mod Drafts
pub mod Sheets
pub mod Plans
