pub mod LengthLemmas
pub mod NumberLemmas
