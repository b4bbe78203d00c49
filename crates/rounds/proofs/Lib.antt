-- Laws of the definitions of specs/, on which the proofs of the functions rest.
pub mod RoundLaws
pub mod RankedLaws
