-- The laws of the code of src/, and what a completed grid says.
pub mod HoldLaws
