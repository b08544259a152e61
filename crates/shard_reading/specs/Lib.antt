pub mod Giving
pub mod Held
pub mod Reading
pub mod Steps
