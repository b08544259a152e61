pub mod ReadAgain
pub mod PlainChange
pub mod StandFor
pub mod Issuing
pub mod Examples
pub mod laws
