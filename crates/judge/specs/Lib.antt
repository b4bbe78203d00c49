-- Judging a table sheet.
pub mod Judging
pub mod cases
pub mod code
