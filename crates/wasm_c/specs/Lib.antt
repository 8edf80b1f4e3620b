-- This file lists the crate's files of definitions.
pub mod Assembled
pub mod Causes
pub mod Indices
pub mod Listing
pub mod Outlining
pub mod Shortened
pub mod Whole
