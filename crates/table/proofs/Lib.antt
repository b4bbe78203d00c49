-- Laws of specs/ on which the proofs of the functions rest, and what an accepted sheet says.
pub mod TableLaws
pub mod Accepted
pub mod Computing
