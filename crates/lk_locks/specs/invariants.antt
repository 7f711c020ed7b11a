-- Invariants. The properties that the proofs carry from call to call. The theorem rests on none of
-- these files; docs/PROOF.md has the few public contracts that name one.
pub mod Threads
pub mod read_write
pub mod ticket
pub mod mcs
pub mod rw_simple
pub mod rw_fifo
pub mod Locks
pub mod WellFormed
pub mod Kept
pub mod Distance
