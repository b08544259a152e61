pub mod PiecesLemmas
pub mod MatchingLemmas
