mod Filling
mod Right
