-- Tables of cases.
pub mod Tables
