pub mod LookLemmas
pub mod RecordLemmas
pub mod GenerationLemmas
pub mod BeginLemmas
pub mod ManifestLemmas
pub mod ShardLemmas
