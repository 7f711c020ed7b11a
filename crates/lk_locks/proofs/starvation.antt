-- No thread in a queue starves: each move but a failed poll leaves fewer of them to be made around
-- a thread that waits. A module for each lock, and what they share. And threads that do starve.
pub mod Totals
pub mod Ahead
pub mod Lowering
pub mod Waiting
pub mod ticket
pub mod rw_fifo
pub mod mcs
pub mod KeptOut
