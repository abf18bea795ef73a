mod RunLemmas
mod ReportLemmas
mod WrittenLaws
mod MemoryLaws
mod FaultLaws
pub mod AddedLemmas
pub mod DepthLemmas
