-- The code's own vocabulary: how it counts, and what its arrays hold. Laws tie it to the definitions beside it.
pub mod Steps
pub mod Arrays
