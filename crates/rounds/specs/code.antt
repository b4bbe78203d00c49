-- One round over the solver's arrays, and what all rounds leave. Laws tie them to theory's definitions.
pub mod Falling
pub mod Views
