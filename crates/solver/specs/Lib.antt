-- What solving a sheet answers and leaves in the lent buffers. Each file says what it defines.
pub mod Solving
pub mod code
pub mod cases
