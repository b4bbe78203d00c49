-- Laws of specs/ on which the proofs of the functions rest.
pub mod CutLaws
pub mod PruneCode
