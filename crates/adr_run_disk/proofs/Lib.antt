mod Steps
mod Undone
mod Writes
