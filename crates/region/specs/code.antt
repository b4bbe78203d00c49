-- Kept nodes, masks and good first words over the arrays, and the flags of first words. Laws tie them to theory's definitions.
pub mod Kept
pub mod Flags
