pub mod Written
pub mod Reading
pub mod Spells
pub use Rattle.first_topic_name.specs.Pieces
