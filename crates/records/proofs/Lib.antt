pub mod FormWriting
pub mod Playing
pub mod Tallied
