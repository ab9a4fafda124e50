mod Counts
mod Kept
mod Moves
mod Told
