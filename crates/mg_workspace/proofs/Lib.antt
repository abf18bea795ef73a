pub mod NameLaws
pub mod FailureLaws
pub mod Moves
pub mod InCurrent
pub mod AtIndexLaws
pub mod ViewportLaws
pub mod ShownWindows
pub mod ContentLaws
