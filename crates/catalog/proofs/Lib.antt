-- The claim
pub mod CheckingVectors
-- Laws of the definitions
pub mod FrameWords
-- Lemmas that the proofs of the functions cite
pub mod WordScans
pub mod MarkLaws
pub mod MarkedRules
pub mod FreshNumbers
pub mod MarkedFrames
pub mod OpenGroups
pub mod TrackedRules
pub mod TrackedState
pub mod CheckSteps
pub mod CheckedFrame
