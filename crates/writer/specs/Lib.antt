-- The bytes of table sheets and rank sheets, for any table and any ranks. Each file says what it defines.
pub mod SheetBytes
pub mod code
