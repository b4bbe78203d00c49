-- What the controller answers, and document 01's claim about every list of calls. Each file says what it defines.
pub mod Controller
pub mod Accuracy
pub mod Sound
pub mod code
