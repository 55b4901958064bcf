-- In an accepted catalog a fill group is directly in the top group, and is the last group there.
use mathlib.Core.Path.{◌≡◌, refl}
use mathlib.Core.List.{List}
use Prim.Native.Nat.{ℕ}
use Rattle.lists.specs.Each.{Each}
use Rattle.catalog_frames.specs.Frames.{Point, Head}
use Rattle.catalog.specs.Checking.{accepted, checked}
use Rattle.model_definitions.specs.Definitions.{Groups, definitions}
use Rattle.model_definitions.specs.Soundness.{EachLowerGroup, FillsLast}
use Rattle.model_definitions.proofs.EveryGroup.{of_lower_groups, of_models}

-- Every fill group is at level 2, and no group follows it.
pub fill_is_last : (ws : List ℕ) (n : ℕ) → checked ws ≡ accepted n
    → Each (EachLowerGroup (λ enclosing level h ps following. FillsLast level h following)) (definitions ws)
fill_is_last =
    let P : List Point → ℕ → Head → List Point → Groups → Type 0 = λ enclosing level h ps following. FillsLast level h following in
    of_models (EachLowerGroup P) (λ d s. of_lower_groups P d.top.points
    (λ enclosing level h ps following head some each k. let f = head.filling k in (f.0, f.1)) d refl s)
