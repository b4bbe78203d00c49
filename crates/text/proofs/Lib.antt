-- Laws of specs/, for the proofs of this crate and of those that write texts by it.
pub mod Page
pub mod Opened
pub mod Numbers
pub mod Fields
pub mod Lines
pub mod Sizes
mod Cases
pub mod Computing
