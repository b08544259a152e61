-- What is proved of the definitions beside this folder.
pub mod ChangeLaws
pub mod OtherLaws
pub mod DoneLaws
pub mod TrackLaws
pub mod IdentifierLaws
pub mod OrderLaws
