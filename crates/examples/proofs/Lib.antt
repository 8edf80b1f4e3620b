-- This file lists the crate's files of lemmas.
pub mod Common
pub mod Gains
pub mod Rows
pub mod StrippedLaws
pub mod CoverageLaws
pub mod MinimizedLaws
