pub mod LogSteps
pub mod ChangeSteps
pub mod OpenSteps
pub mod WriterEvents
pub mod WriterSteps
pub mod MeetingLaws
pub mod LoadedLaws
