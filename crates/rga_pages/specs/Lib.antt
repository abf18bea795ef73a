pub mod Known
pub mod Pages
pub mod Parts
