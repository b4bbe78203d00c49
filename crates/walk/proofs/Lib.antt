-- Laws of the definitions of specs/, on which the proofs of the functions rest.
pub mod Products
pub mod NodeLaws
pub mod LevelLaws
pub mod WalkLaws
