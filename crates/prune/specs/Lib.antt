-- Taking bits out of masks until what is left stands, in the code's own vocabulary.
pub mod code
