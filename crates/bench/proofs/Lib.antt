mod Tables
mod Courses
mod Calls
mod Carrying
mod Searches
mod Needs
mod Plans
mod Begins
