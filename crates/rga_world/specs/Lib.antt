pub mod Sites
pub mod Steps
pub mod Together
pub mod SiteStates
pub mod Outcomes
pub mod Words
pub mod Program
