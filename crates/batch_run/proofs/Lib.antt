mod Extending
mod Written
mod Stopping
mod Concluding
