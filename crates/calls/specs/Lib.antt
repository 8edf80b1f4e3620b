-- This file lists the crate's files of definitions.
pub mod Decodings
pub mod Called
