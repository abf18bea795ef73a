pub mod ArgumentLaws
pub mod BegunLaws
pub mod HighLaws
pub mod NameLaws
pub mod TextLaws
pub mod Utf8Laws
