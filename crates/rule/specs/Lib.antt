-- The judging rule at one node, in the code's own vocabulary.
pub mod code
