pub mod Taken
pub mod Begun
pub mod Clauses
pub mod FieldKinds
