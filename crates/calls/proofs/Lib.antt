-- This file lists the crate's files of lemmas.
pub mod Common
pub mod Branch
pub mod DecodeBodies
pub mod OneByte
pub mod CalledLaws
