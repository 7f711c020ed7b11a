mod LastSpace
mod Placing
mod Quiet
mod Keeping
mod Beginning
mod Suspects
mod Ends
