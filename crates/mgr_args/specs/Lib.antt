pub mod Rules
pub mod Given
pub mod Edit
pub mod CommandLine
pub mod Job
pub mod Memory
