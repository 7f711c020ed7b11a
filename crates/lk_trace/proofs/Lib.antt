mod HeaderFaults
mod Naming
pub mod Agreeing
mod Widths
pub mod Waiting
mod Stops
