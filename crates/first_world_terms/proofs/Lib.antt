pub mod Bridge
pub mod Following
pub mod Offsets
pub mod PlainRuns
pub mod Prefixes
pub mod Topics
