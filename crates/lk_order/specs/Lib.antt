pub mod Logs
pub mod Runs
pub mod Orders
pub mod Picked
pub mod Endings
pub mod Shelves
pub mod Cuts
