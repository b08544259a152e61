-- What is proved of the definitions beside this folder.
pub mod AllowedLaws
