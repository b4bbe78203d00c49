-- What is written reads back, and laws of specs/ on which the proofs of the functions rest.
pub mod Sheets
pub mod Readable
pub mod WriteLaws
