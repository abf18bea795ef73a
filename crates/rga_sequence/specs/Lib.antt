pub mod Entries
pub mod Blocks
