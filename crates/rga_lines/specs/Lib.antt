pub mod Stream
pub mod Log
pub mod Spelling
pub mod Table
pub mod Runs
pub mod FaultName
pub mod Faults
pub mod Memory
