pub mod Numbers
pub mod Cuts
pub mod Pieces
pub mod FirstMoves
pub mod Skipped
pub mod Expectations
pub mod HeaderTokens
