-- Laws of bytes written one after another, and the bytes of a token.
pub mod Writing
pub mod TokenBytes
