pub mod EntryLemmas
pub mod SubLemmas
pub mod ChangeLemmas
pub mod SoundLemmas
