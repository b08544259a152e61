pub mod PlainDisk
pub mod Images
pub mod Laws
pub mod Kept
