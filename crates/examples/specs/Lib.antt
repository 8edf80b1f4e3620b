-- This file lists the crate's files of definitions.
pub mod Bodies
pub mod Whole
pub mod Filled
pub mod Named
pub mod Padded
pub mod Sums
pub mod Adding
pub mod Lowering
pub mod Trees
pub mod Compiled
pub mod Coverage
pub mod Object
pub mod Large
pub mod Stripped
