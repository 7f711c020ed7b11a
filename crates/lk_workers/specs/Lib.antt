pub mod Counting
pub mod Drawing
pub mod Seats
pub mod SeatSteps
pub mod LockState
pub mod Batch
pub mod invariants
