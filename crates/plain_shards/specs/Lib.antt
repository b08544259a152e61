pub mod KeptShards
pub mod Calls
