mod Finds
mod Sheets
mod Worked
