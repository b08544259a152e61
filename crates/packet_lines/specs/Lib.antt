pub mod Lines
pub mod Command
pub mod Asked
pub mod Digits
pub mod Text
pub mod Outcome
pub mod Examples
