-- Laws of the definitions of specs/, on which the proofs of the functions rest.
pub mod CheckLaws
pub mod Accepted
pub mod ReadLaws
pub mod Legality
pub mod Bodies
pub mod ReachLaws
pub mod Computing
pub mod Cases
