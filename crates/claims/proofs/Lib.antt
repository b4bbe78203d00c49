-- The theorems: the demands and what the requests ask, over bytes, and the starred cases.
pub mod Demand2
pub mod Reached
pub mod Judged
pub mod Packets
pub mod Accuracy
pub mod Closed
pub mod Posted
pub mod Notices
pub mod Computing
pub mod Cases
pub mod Orders
pub mod Gates
