pub mod LogReading
pub mod Shelves
pub mod Listed
pub mod Repeating
