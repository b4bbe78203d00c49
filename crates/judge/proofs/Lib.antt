-- Laws of specs/ on which the proofs of the functions rest, and what an accepted judging says.
pub mod PartLaws
pub mod WordLaws
pub mod JudgeLaws
pub mod Accepted
pub mod Computing
pub mod Cases
