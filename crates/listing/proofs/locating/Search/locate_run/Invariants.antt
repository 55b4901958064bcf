-- `listing::locating::Search::locate_run` meets its contract: the result among the remaining points is the result among all.
use mathlib.Core.Path.{◌≡◌}
use Rattle.layout.specs.PointTables.{present_within}
use Rattle.layout.specs.InternalWalks.{content_from}
use Rattle.layout.specs.Locating.{located_among}
use Rattle.definition_frames.specs.CodeTypes.{points_left}
use Rattle.listing.proofs.locating.Search.locate_run.Given as goal

abbrev pub invariant-loop-point : goal.invariant-loop-point
invariant-loop-point l =
    (goal.iterator-loop-point).can_next l.point-iterator
    × (goal.iterator-loop-point).is_finite l.point-iterator
    × (located_among l.self.key.number l.offset (present_within l.limit l.offset (points_left l.point-iterator))
    ≡ located_among l.self.key.number l.fn.start.offset
    (present_within l.limit l.fn.start.offset (content_from l.self.catalog.words.now l.fn.start.frame).points))
