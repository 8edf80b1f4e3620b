-- This file lists the crate's files of lemmas.
pub mod Common
pub mod IteratedLaws
pub mod ObjectLaws
pub mod InsertedLaws
pub mod RemappedLaws
