pub mod LineLemmas
pub mod NumberLemmas
pub mod PieceLemmas
pub mod ShortLemmas
