pub mod LineView
pub mod Digits
pub use Rattle.first_world_terms.specs.Script
pub use Rattle.first_world_terms.specs.Text
pub use Rattle.first_world_terms.specs.Move
pub use Rattle.first_mqtt_packet.specs.Written
pub use Rattle.first_topic_name.specs.Pieces
