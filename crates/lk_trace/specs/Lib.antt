pub mod Codes
pub mod Names
pub mod Lines
pub mod Open
pub mod Unreadable
pub mod Checks
pub mod Agreement
pub mod Traces
