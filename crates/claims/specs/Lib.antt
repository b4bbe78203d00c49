-- What the customer's claims say beyond the operations' contracts, and document 01's starred cases.
pub mod Demand2
pub mod Judged
pub mod Packets
pub mod Posted
pub mod Notices
pub mod Reached
pub mod Gates
pub mod cases
