pub mod EntryLaws
pub mod PartLaws
pub mod PlaceLaws
pub mod SpotLaws
