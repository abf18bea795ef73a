pub mod Peers
pub mod Printed
pub mod Report
pub mod Status
pub mod Telling
