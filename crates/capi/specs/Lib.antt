-- What the exported functions answer and leave. Each file says what it defines.
pub mod Exported
pub mod Controlled
