pub mod BrokerView
pub mod Outcome
pub mod Takes
