-- The code's own vocabulary. Laws tie it to the definitions of sheet and theory.
pub mod Held
