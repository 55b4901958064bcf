-- Laws of the walk over the models of a map
pub mod WalkSteps
pub mod ListingCases
pub mod ResultCases
pub mod RefusalNumbers
pub mod WalkHeaders
pub mod ListingInversion
pub mod HeadersCounted
-- Cited by the proofs of the functions: extents and surveys
pub mod ExtentSteps
pub mod ExtentWalks
pub mod LocatedGroups
pub mod SurveyedModels
pub mod SurveyedByFrames
-- Points and records
pub mod WrittenRecords
pub mod OutputRecords
pub mod PointRuns
pub mod GroupsWriting
pub mod InstanceSteps
pub mod ReadyModels
pub mod LocatedModels
pub mod ModelWriting
-- Whole maps
pub mod CheckedPlants
pub mod MapSteps
pub mod MapSurvey
pub mod Searches
pub mod MapRecords
pub mod MapSearch
pub mod WholeAnswer
