pub mod Digits
pub mod Vocabulary
pub mod Lines
pub mod FirstMove
pub mod Faults
pub mod Header
pub mod Reads
pub mod Unreadable
