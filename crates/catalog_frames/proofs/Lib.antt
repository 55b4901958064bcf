-- Lemmas that the proofs of the functions cite
pub mod FrameKinds
pub mod FramesByIndex
mod FrameChunks
