-- The code's own vocabulary: what its inner functions answer and what its search holds. Laws tie it to the definitions beside it.
pub mod Steps
pub mod Reaching
pub mod Laid
