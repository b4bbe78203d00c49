-- Laws of the definitions of specs/, on which the proofs of the functions rest.
pub mod ChainLaws
pub mod ChunkLaws
pub mod FormLaws
pub mod SizeLaws
pub mod GridLaws
pub mod MoveLaws
pub mod RefusalLaws
