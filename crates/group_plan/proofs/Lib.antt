pub mod References
pub mod KeptReferences
