-- Reading a table sheet.
pub mod TableSheet
pub mod code
