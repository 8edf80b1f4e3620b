-- The lemmas of the crate: each file as a module. `Words` re-exports what dependent crates use.
pub mod Words
pub mod Common
pub mod TypeLaws
pub mod RejectionLaws
pub mod Calls
pub mod DecodeFields
pub mod DecodeShapes
pub mod DecodeItems
pub mod MinimalTypes
pub mod WalkTypes
