-- This file lists the crate's files of definitions.
pub mod Answers
pub mod Decodings
