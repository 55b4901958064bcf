-- `catalog::scans::uncounted_from` meets its contract: it is the chain of the definition.
use mathlib.Core.Path.{◌≡◌, refl, sym, ◌∙◌}
use mathlib.Core.Bool.{not}
use Prim.Native.Nat.{ℕ, ◌-◌, ◌/◌}
use lib.ListN.{length}
use native.Mathlib.Omega.{arith}
use Rattle.std.proofs.Common.{rules, tests}
use Rattle.std.specs.Prelude.{Option, Some, None}
use Rattle.std.specs.Option.{option_map}
use Rattle.std.proofs.lemmas.Iterator.{YieldsList-from_range}
use Rattle.std.proofs.lemmas.Iterator.Search.{YieldsList-from_take_while, find_from_yields_List}
use Rattle.catalog.specs.InternalScans.{is_model}
use Rattle.catalog.specs.InternalMarks.{is_uncounted, uncounted_from}
use Rattle.catalog.proofs.scans.uncounted_from.Goals as goal

itself : (r : Option ℕ) → option_map (λ x. x) r ≡ r
itself None = refl
itself (Some x) = refl

pub returns : goal.returns
unfolding uncounted_from
returns c =
    let a = c.args in
    let ws = a.catalog.now in
    sym (itself c.find.result)
    ∙ find_from_yields_List (λ k. is_uncounted ws a.counts.now k) _ _ c.find.result c.find.ensures.ran
    (YieldsList-from_take_while _ (λ k. not (is_model ws k))
    (YieldsList-from_range a.from _ (length ws / 8 - a.from) c.take_while.ensures.source (omega arith))
    c.take_while.ensures.closure c.take_while.ensures.done (λ x b q k. search (rules, tests)))
    (λ x b q k. search (rules, tests))
