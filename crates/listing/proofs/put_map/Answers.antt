-- `listing::put_map` meets its contract: at each model, writing the remaining ones gives the list that the contract requires.
use Rattle.std.proofs.Common.{ap, sym, subst, ◌∙◌, arith}
use mathlib.Core.Logic.{inl}
use Rattle.std.specs.Iterator.Adapters.{enumerate_source, enumerate_count}
use Rattle.model_definitions.specs.Definitions.{definitions}
use Rattle.layout.specs.Reading.{reading}
use Rattle.listing.specs.InternalModels.{CanWalk, StartsAt}
use Rattle.listing.proofs.MapRecords.{WalkingMap, models_start, no_model_left, given_fits, given_written}
use Rattle.listing.proofs.put_map.Goals as goal

pub loop-index-init : goal.loop-index-init
loop-index-init c =
    let map = c.args.plant.now.map.now in
    let read = reading (definitions c.args.plant.now.catalog.words.now) in
    let it = c.into_iter-index-iterator.result in
    let source = ap enumerate_source c.into_iter-index-iterator.ensures.into_iter_gives ∙ c.enumerate-index-items.ensures.source in
    let count = ap enumerate_count c.into_iter-index-iterator.ensures.into_iter_gives ∙ c.enumerate-index-items.ensures.count in
    let can : CanWalk (enumerate_source it) = subst CanWalk (sym source) c.new.ensures.can_walk in
    let starts : StartsAt map (enumerate_source it) = subst (StartsAt map) (sym source) c.new.ensures.starts_at in
    let begun : WalkingMap read map c.args.out.now c.args.out.now (enumerate_source it).at 0 0 = models_start starts c.requires in (
      (can, tt, inl (omega (arith, count, can.short))),
      tt,
      starts.map_is,
      subst (λ i. WalkingMap read map c.args.out.now c.args.out.now (enumerate_source it).at i 0) (sym count) begun,
    )

pub put_known-records-requires : goal.put_known-records-requires
put_known-records-requires c =
    let i = c.loop-index.invariant in
    given_fits (enumerate_source c.loop-index.index-iterator) i.2 i.3 c.in-Some.ensures.steps.0

pub loop-index-preserved : goal.loop-index-preserved
loop-index-preserved c =
    let i = c.loop-index.invariant in
    let steps = c.in-Some.ensures.steps in
    let put = c.put_known-records.ensures in (
      c.in-Some.ensures.goes.keeps,
      tt,
      steps.0.same_map ∙ i.2,
      given_written (enumerate_source c.loop-index.index-iterator) i.2 i.3 steps.0 steps.1 steps.2 put.value put.out_after,
    )

pub returns : goal.returns
returns c =
    let i = c.loop-index.invariant in
    no_model_left (enumerate_source c.loop-index.index-iterator) i.2 i.3 c.in-None.ensures.steps.0.1
