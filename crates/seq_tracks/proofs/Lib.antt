pub mod SearchLemmas
pub mod TrackLemmas
