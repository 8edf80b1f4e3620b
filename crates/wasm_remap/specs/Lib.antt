-- The definitions of the crate: each file as a module.
pub mod Spaces
pub mod Mapping
pub mod Instructions
pub mod Items
pub mod Types
pub mod Customs
pub mod Sections
pub mod Shifted
pub mod Places
pub mod Inserted
pub mod Imported
pub mod Begun
pub mod Instrumented
pub mod Streamed
pub mod Errors
pub mod Removed
