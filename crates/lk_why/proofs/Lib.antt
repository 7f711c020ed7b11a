pub mod Judges
pub mod Ready
pub mod Left
pub mod Standing
pub mod Boards
pub mod Unchanged
pub mod Places
