-- What a sheet is, what the bodies of a game sheet say and which game it means. Each file says what it defines.
pub mod Limits
pub mod Form
pub mod Refusals
pub mod Kinds
pub mod Size
pub mod Bodies
pub mod SheetGame
pub mod code
