-- The claims
pub mod AnyOrder
pub mod AnyOrderCalls
pub mod ResultsAlone
pub mod SequenceVectors
-- What they rest on: when two writes are to the same point, and two writes to different points
pub mod SamePoints
pub mod DifferentPoints
