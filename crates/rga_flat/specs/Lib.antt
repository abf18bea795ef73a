pub mod Waiting
pub mod Flat
pub mod Placing
pub mod Based
pub mod Undo
pub mod Chains
