pub mod Appending
pub mod Mounting
pub mod Parts
pub mod PlainShardLog
pub mod Steps
pub mod StoredOnce
