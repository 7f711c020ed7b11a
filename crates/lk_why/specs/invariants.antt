-- Invariants. The properties that the proofs carry from position to position. No public `ensures`
-- rests on believing these files.
pub mod Judges
pub mod Ready
pub mod Standing
