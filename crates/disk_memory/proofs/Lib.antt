pub mod Moments
pub mod Undo
