pub mod Fold
pub mod FoldLaws
pub mod Giving
pub mod PairCalls
pub mod PlainJournal
pub mod Committed
pub mod Mounting
pub mod Examples
