pub mod PairLemmas
pub mod TurnLemmas
pub mod RewriteLemmas
pub mod SettleLemmas
pub mod MountLemmas
