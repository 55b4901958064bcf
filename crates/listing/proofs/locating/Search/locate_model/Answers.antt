-- `listing::locating::Search::locate_model` meets its contract: the top points are searched, then the groups.
use mathlib.Core.Path.{sym, ap, subst, ◌∙◌}
use mathlib.Core.Option.{Option}
use Prim.Native.Nat.{ℕ}
use Rattle.model_definitions.specs.Definitions.{Groups, points_size}
use Rattle.layout.specs.Layout.{count_of}
use Rattle.layout.specs.PointTables.{scope_in}
use Rattle.layout.specs.InternalWalks.{content_from}
use Rattle.layout.specs.Locating.{Located, or_else, located_in}
use Rattle.layout.proofs.FramePosition as position
use Rattle.definition_frames.proofs.RunSteps.{content_run}
use Rattle.listing.specs.InternalContracts.{LocateAsks}
use Rattle.listing.proofs.locating.Search.locate_model.Goals as goal

pub locate_groups-requires : goal.locate_groups-requires
locate_groups-requires c =
    let a = c.args in
    let asks = c.requires in
    let run = content_run a.self.now.catalog.words.now a.first asks.parses asks.groups.position.few _ c.run_extent-run.ensures in
    let Asks : ℕ → ℕ → Type 0 = LocateAsks a.self.now.catalog.words.now a.self.now.table.now a.self.now.fill 3 in
    subst (λ n. Asks n c.run_extent-run.result.size) (sym run.next) (subst (Asks _) (sym run.size) asks.groups)

pub returns : goal.returns
returns c =
    let a = c.args in
    let asks = c.requires in
    let run = content_run a.self.now.catalog.words.now a.first asks.parses asks.groups.position.few _ c.run_extent-run.ensures in
    let top = content_from a.self.now.catalog.words.now a.first in
    let groups = ap (λ n. (content_from a.self.now.catalog.words.now n).groups) run.next
    ∙ (position.after_run a.self.now.catalog.words.now a.first asks.parses).1 in
    let located : ℕ → Groups → Option Located =
    located_in (count_of (scope_in a.self.now.table.now) a.self.now.fill) a.self.now.key.number a.self.now.key.path.instances 2 in
    c.locate_groups.ensures
    ∙ ap (located c.run_extent-run.result.size) groups
    ∙ ap (λ n. located n top.groups) run.size
    ∙ ap (λ o. or_else o (located (points_size top.points) top.groups)) c.in_default.ensures
