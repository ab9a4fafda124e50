mod Ends
mod Steps
