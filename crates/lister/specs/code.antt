-- What the contracts of the listing's inner writers cite.
pub mod Parts
