-- What making answers and leaves. Each file says what it defines.
pub mod Making
pub mod code
