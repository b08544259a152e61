pub mod Refusal
pub mod Framing
pub mod PlainFramer
pub mod Packets
pub mod Missing
pub mod Steps
pub mod Examples
