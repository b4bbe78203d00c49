-- Tables of cases.
pub mod Notices
