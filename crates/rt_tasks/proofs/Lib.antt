pub mod Least
pub mod LockBits
pub mod Tops
