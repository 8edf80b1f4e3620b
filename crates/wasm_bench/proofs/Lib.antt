-- This file lists the crate's files of lemmas.
pub mod PieceLengths
