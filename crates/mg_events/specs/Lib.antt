pub mod Reports
pub mod Reading
pub mod Written
pub mod Faults
pub mod Objects
pub mod StatusText
pub mod Added
