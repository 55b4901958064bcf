-- Sizes, counts and scopes
pub mod Sizes
pub mod Capping
pub mod PointCounts
pub mod InstanceLaws
pub mod CountsAgree
pub mod ScopeOnly
pub mod ReadOnlyCounts
-- The reading of one model
pub mod LeftOutPad
pub mod Readings
pub mod ReadingSteps
pub mod ListedPoints
-- The places of its points
pub mod BodyTiling
pub mod TiledApart
pub mod PointsInside
pub mod OnePoint
pub mod Depths
pub mod Places
pub mod PointAddresses
pub mod PointPlaces
-- What a record shows of a point
pub mod ValueStatus
pub mod InstanceScaleVectors
-- The frames of a definition as a walk visits them
pub mod FramePosition
pub mod FrameRuns
pub mod AcceptedModels
pub mod PassedFrames
pub mod ModelSearch
pub mod GroupDescent
pub mod RecordedPoints
pub mod LocatingSteps
pub mod LocatedPoints
