-- The controller's state, by age and as bytes. Each file says what it defines.
pub mod State
pub mod StateBytes
