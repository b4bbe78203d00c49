-- Laws of the definitions of specs/, on which the proofs of the functions rest.
pub mod GoodLaws
pub mod MaskLaws
pub mod ReadLaws
pub mod FlagLaws
