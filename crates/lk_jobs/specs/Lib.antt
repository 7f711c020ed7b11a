pub mod Answered
pub mod Counted
pub mod Drawn
pub mod Endless
pub mod FileNames
pub mod Orders
pub mod Written
pub mod invariants
