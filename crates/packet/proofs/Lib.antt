-- The theorems over specs/.
pub mod PacketBytes
pub mod Rearranged
pub mod WalkLaws
pub mod ToldLaws
