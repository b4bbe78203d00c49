-- Which refusals a game sheet gets, and what a reading of it carries. Each file says what it defines.
pub mod Checks
pub mod Reading
pub mod code
pub mod cases
