-- The code's own vocabulary: no contract of a public operation and no claim uses it.
pub mod Pruning
pub mod Views
