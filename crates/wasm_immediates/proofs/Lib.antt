-- The lemmas of the crate: each file as a module. `Words` re-exports what dependent crates use.
pub mod Words
pub mod Common
pub mod FixedBytes
pub mod ImmediateLaws
pub mod ImmediateEncodings
pub mod DecodeImmediates
pub mod DecodePlain
pub mod MinimalImmediates
