-- Tables of cases: games of our own with their results, tables with their rulings, notices with what they leave, and targets with what
-- gates hold.
pub mod Games
pub mod Tables
pub mod Notices
pub mod Holding
