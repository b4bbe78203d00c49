-- What is written into a lent buffer, from single bytes up to the lines of the listing. Each file says what it defines.
pub mod Ascii
pub mod Page
pub mod Numbers
pub mod Fields
pub mod Lines
