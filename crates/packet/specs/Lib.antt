-- What hearing a packet answers and leaves. Each file says what it defines.
pub mod Packet
pub mod Told
pub mod code
