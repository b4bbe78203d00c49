-- The theorems over specs/, and laws of them on which the proofs of the functions rest.
pub mod Readable
pub mod Made
pub mod LayoutLaws
pub mod RoomLaws
pub mod WrittenLaws
pub mod SolvedLaws
pub mod AnswerLaws
