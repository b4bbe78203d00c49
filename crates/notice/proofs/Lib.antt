-- Laws of specs/ on which the proofs of the functions rest, and what an accepted posting says.
pub mod CloseLaws
pub mod LeftLaws
pub mod WordLaws
pub mod PostLaws
pub mod Accepted
pub mod Computing
pub mod Cases
