-- Laws of specs/, on which the proofs of the functions rest.
pub mod Words
pub mod SolvedLaws
pub mod InputLaws
pub mod ProgramLaws
mod Cases
