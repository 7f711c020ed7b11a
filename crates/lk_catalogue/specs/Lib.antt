pub mod ticket
pub mod mcs
pub mod rw_simple
pub mod rw_fifo
pub mod Kinds
