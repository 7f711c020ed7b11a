-- No run is stuck: some thread can go on, and brings the lock nearer to rest. A module for each
-- lock, and what they share.
pub mod Going
pub mod Falling
pub mod ticket
pub mod mcs
pub mod Holders
pub mod rw_simple
pub mod rw_fifo
pub mod Resting
pub mod Leaving
