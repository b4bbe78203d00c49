-- What the grid of targets holds where gates hold.
pub mod code
