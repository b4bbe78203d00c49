-- The theorems over what C callers are left, and over a state's bytes.
pub mod ExportLaws
pub mod StateBytes
