-- Posting a closing notice.
pub mod Posting
pub mod cases
pub mod code
