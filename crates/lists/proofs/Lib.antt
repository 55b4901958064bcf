-- Tests
pub mod TestOutcomes
pub mod TestLaws
pub mod FirstBroken
pub mod EveryLaws
-- Lists
pub mod EachLaws
pub mod InLaws
pub mod FirstFound
pub mod SelectedLaws
pub mod PairwiseLaws
pub mod StoreLaws
pub mod MapLaws
-- Runs
pub mod Positions
pub mod Rearranging
pub mod RearrangingTest
pub mod RunVectors
