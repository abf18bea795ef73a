pub mod Prelude
pub mod ReadingLemmas
pub mod StreamLemmas
pub mod SplitterLemmas
pub mod NextLine
pub mod SpellingLemmas
pub mod ReadBack
pub mod PartsLemmas
pub mod NewlineLemmas
pub mod WritableLemmas
pub mod BeginningLemmas
pub mod RunBack
pub mod RunLemmas
pub mod DeletionLemmas
mod DigitsLemmas
mod FrontLemmas
pub mod DeletionBack
pub mod StandLemmas
pub mod AddedLemmas
pub mod SpelledLemmas
mod ValueLemmas
mod NextDeletion
pub mod SoundLemmas
mod FaultLaws
