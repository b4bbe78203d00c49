-- Laws of specs/, on which the proofs of the functions rest, and that a state's bytes give it back.
pub mod ByteLaws
pub mod CheckLaws
pub mod RoundTrip
pub mod Repeat
