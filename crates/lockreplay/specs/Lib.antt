pub mod Answers
pub mod CommandLines
pub mod Commands
pub mod Faults
pub mod Jobs
