pub mod NumberLemmas
pub mod HexadecimalLemmas
pub mod BadLineLemmas
pub mod WordsLemmas
