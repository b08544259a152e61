pub mod ShardList
pub mod Wanted
pub mod Capacity
pub mod Streams
pub mod SweepOrder
pub use Rattle.first_topic_name.specs.Pieces
pub use Rattle.first_topic_name.specs.Matching
pub use Rattle.first_topic_name.specs.StoredMessage
