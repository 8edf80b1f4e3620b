-- The lemmas of the crate: each file as a module. `Words` re-exports what dependent crates use.
pub mod Words
pub mod Common
pub mod TableRuns
pub mod ByteShapes
pub mod PlainLaws
pub mod TableRows
pub mod InstructionLaws
pub mod CaseLaws
pub mod DecodeArguments
pub mod DecodeInstructions
pub mod DecodePlain
pub mod DecodeOperands
pub mod WalkInstructions
