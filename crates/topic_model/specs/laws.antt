-- What is proved of the definitions beside this folder.
pub mod LevelsLaws
pub mod TextsLaws
pub mod RoutingLaws
