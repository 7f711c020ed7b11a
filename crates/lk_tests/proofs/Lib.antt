pub mod WorkedHistories
pub mod WorkedStates
pub mod WorkedWaits
