pub mod World
pub mod Lines
pub mod Text
pub mod Running
pub mod Computing
pub mod Allowed
pub mod laws
