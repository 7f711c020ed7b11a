-- Each lock's moves preserve its invariant: a module for each, and what they share.
pub mod HolderLists
pub mod TicketQueue
pub mod ticket
pub mod McsLinks
pub mod McsQueue
pub mod mcs
pub mod ReadWriteMoves
pub mod rw_simple
pub mod rw_fifo
