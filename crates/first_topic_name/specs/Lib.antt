pub mod Pieces
pub mod Matching
pub mod StoredMessage
