pub mod FrontLemmas
pub mod FramedLemmas
pub mod FedLemmas
pub mod StepLemmas
pub mod PacketLemmas
