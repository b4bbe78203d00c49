-- Tables of cases: document 01's yards, and sheets with their answers.
pub mod Yards
pub mod Sheets
