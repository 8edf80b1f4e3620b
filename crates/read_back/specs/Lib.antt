-- This file lists the crate's files of definitions.
pub mod CompilationHints
pub mod Customs
pub mod Declarations
pub mod Dumps
pub mod Libraries
pub mod Objects
pub mod FirstValues
pub mod Handed
pub mod Inserted
pub mod Iterated
pub mod Remapped
pub mod ReadPadded
pub mod Relocated
pub mod Removed
pub mod Stored
