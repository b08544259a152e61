pub mod Reached
pub mod StoredLists
pub mod Issued
pub mod SentAgain
pub mod Acknowledged
pub mod Distinct
pub mod Always
pub mod laws
