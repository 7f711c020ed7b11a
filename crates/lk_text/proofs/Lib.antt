pub mod Keeping
pub mod Taken
pub mod Filling
pub mod Places
pub mod Accepting
pub mod Reading
pub mod Endings
pub mod Said
