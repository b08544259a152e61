-- What is proved of the definitions beside this folder.
pub mod PatternLaws
pub mod CapacityLaws
pub mod StreamLaws
pub mod PathLaws
pub mod NumberLaws
pub mod ListLaws
pub mod OrderLaws
pub mod GrownLaws
pub mod GenerationLaws
pub mod MoveLaws
pub mod PlaceLaws
pub mod HeldLaws
pub mod RunLaws
pub mod SweepLaws
pub mod NextRunLaws
pub mod GrownSweepLaws
pub mod AllowedMoveLaws
