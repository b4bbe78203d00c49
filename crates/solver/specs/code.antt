-- The code's own vocabulary: what the solver's inner functions find. Laws tie it to theory's definitions.
pub mod Sizes
pub mod Search
pub mod Work
pub mod Chains
pub mod Spread
pub mod Seen
pub mod Sweep
pub mod First
pub mod Block
pub mod Working
pub mod Views
