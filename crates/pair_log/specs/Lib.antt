pub mod Epochs
pub mod Sides
pub mod PlainPair
pub mod Mounted
pub mod Settling
