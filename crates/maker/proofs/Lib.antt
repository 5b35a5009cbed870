mod Calls
mod Kept
