-- `listing::records::Model::put_groups` meets its contract: at each instance, writing what remains gives the list that the contract
-- requires.
use mathlib.Core.Path.{◌≡◌}
use mathlib.Core.List.{[]}
use Prim.Native.Nat.{◌-◌, ◌/◌}
use lib.ListN.{length}
use Rattle.layout.specs.InternalWalks.{content_from, ParsesAt, level_of}
use Rattle.listing.proofs.GroupsWriting.{Writing}
use Rattle.listing.proofs.records.Model.+put_groups.Given as goal

abbrev pub invariant-loop-head : goal.invariant-loop-head
invariant-loop-head l =
    Writing l.self.body.now l.self.visit l.self.survey.fill (level_of l.levels) l.path.instances l.initial.table l.initial.out
    l.initial.at.records l.initial.at.offset (content_from l.self.catalog.words.now l.initial.at.frame).groups
    l.table l.out l.at.records l.at.offset 0 (content_from l.self.catalog.words.now l.at.frame).groups
    × ParsesAt l.self.catalog.words.now l.at.frame
    × ((content_from l.self.catalog.words.now l.at.frame).points ≡ [])

abbrev pub decreases-loop-head : goal.decreases-loop-head
decreases-loop-head l = length l.self.catalog.words.now / 8 - l.at.frame

abbrev pub invariant-loop-j : goal.invariant-loop-j
invariant-loop-j l =
    Writing l.self.body.now l.self.visit l.self.survey.fill (level_of l.levels) l.path.instances l.fn.table l.fn.out
    l.fn.start.records l.fn.start.offset (content_from l.self.catalog.words.now l.fn.start.frame).groups
    l.table l.out l.at.records l.at.offset l.j (content_from l.self.catalog.words.now l.frame).groups

abbrev pub decreases-put_groups : goal.decreases-put_groups
decreases-put_groups l = l.levels
