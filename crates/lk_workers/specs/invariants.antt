-- Invariants. The properties that the proofs carry from call to call. The theorem rests on none of
-- these files; docs/PROOF.md has the few public contracts that name one.
pub mod DrawRule
pub mod Running
pub mod Collected
