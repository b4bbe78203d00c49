-- What the contracts of the writers' inner functions cite.
pub mod Room
