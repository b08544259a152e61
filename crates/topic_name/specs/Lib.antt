pub mod PlainConfig
pub mod LevelsLeft
pub mod KeptMessage
pub mod BodyView
