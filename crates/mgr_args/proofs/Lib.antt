pub mod CommandLineLemmas
pub mod Adding
pub mod GivenLemmas
pub mod ShowLaws
