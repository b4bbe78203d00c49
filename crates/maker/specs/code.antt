-- What the contracts of making's inner functions cite.
pub mod Checked
