-- All of it is the code's own vocabulary. Each file says what it defines.
pub mod code
