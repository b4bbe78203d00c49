-- The numbers of one delay, the nodes, and what the walk over one finds. Laws tie them to theory's definitions.
pub mod Levels
pub mod Nodes
pub mod Walks
pub mod Arenas
