pub mod Ends
pub mod Records
pub mod Threads
pub mod OwnedBytes
pub mod Turns
pub mod StateBytes
pub mod Seeking
pub mod Resting
mod CheckedLines
mod Touching
