pub mod Records
pub mod Listing
pub mod Chains
pub mod Links
