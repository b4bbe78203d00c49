-- What the listing program prints. Each file says what it defines.
pub mod Listing
pub mod code
