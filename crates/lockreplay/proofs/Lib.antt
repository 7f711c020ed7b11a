mod PlainLines
mod Passed
mod ReadRows
mod Sent
mod TakenLines
