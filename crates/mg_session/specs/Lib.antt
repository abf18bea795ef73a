pub mod Faults
pub mod Courses
pub mod Moments
pub mod Display
pub mod Keys
pub mod Opening
pub mod Running
pub mod Memory
