-- A sound point takes 1 to 64 registers, so a lower group takes at least one.
use mathlib.Core.Path.{◌≡◌, refl, sym}
use mathlib.Core.Bool.{Bool, true, false, ◌&&◌}
use mathlib.Core.List.{List, [], ◌∷◌, ◌++◌}
use mathlib.Core.Option.{Option, none, some}
use Prim.Native.Nat.{ℕ, ◌≤◌}
use native.Mathlib.Omega.{arith}
use borrow.Author.Tests.{leb-true}
use lib.Dec.{leb}
use lib.ListN.{length}
use Rattle.lists.specs.Each.{Each}
use Rattle.lists.proofs.TestOutcomes.{clash, both}
use Rattle.point_types.specs.Rows.{TypeRow, row_of, registers_of}
use Rattle.point_types.proofs.Table.{one_to_64}
use Rattle.catalog_frames.specs.Frames.{Point, Head}
use Rattle.frame_rules.specs.FrameTests.{is_size_of}
use Rattle.catalog.specs.Checking.{accepted, checked}
use Rattle.model_definitions.specs.Definitions.{Groups, points_size, definitions}
use Rattle.model_definitions.specs.Soundness.{SoundPoint, EachLowerGroup}
use Rattle.model_definitions.proofs.EveryGroup.{of_lower_groups, of_models}

-- A size that a type may have is 1 to 64 registers.
pub type_size : (code size : ℕ) → is_size_of code size ≡ true → (1 ≤ size) × (size ≤ 64)
unfolding is_size_of registers_of
type_size code size = go (row_of code) refl
  where
    Sized : Option TypeRow → Type 0
    Sized o =
        let registers : Option (ℕ × ℕ) = elim o [ none ↦ none | some r ↦ some (r.fewest, r.most) ] in
        let is_size : Bool = elim registers [ none ↦ false | some r ↦ leb r.0 size && leb size r.1 ] in
        is_size ≡ true → (1 ≤ size) × (size ≤ 64)

    go : (o : Option TypeRow) → row_of code ≡ o → Sized o
    go none q e = clash (sym e)
    go (some r) q e =
        let few = one_to_64 code r q in
        let s = both (leb r.fewest size) (leb size r.most) e in
        let above = leb-true r.fewest size s.0 in
        let below = leb-true size r.most s.1 in
        (omega (arith, few.0), omega (arith, few.1))

-- A sound point takes 1 to 64 registers.
pub point_size : (in_scope : List Point) (p : Point) → SoundPoint in_scope p → (1 ≤ p.size) × (p.size ≤ 64)
point_size in_scope p s = type_size p.type_code p.size s.sized

-- One or more sound points take at least one register.
group_size : (in_scope ps : List Point) → 1 ≤ length ps → Each (SoundPoint in_scope) ps → 1 ≤ points_size ps
group_size in_scope [] l e = absurd (omega arith)
group_size in_scope (p ∷ ps) l e = let s = (point_size in_scope p e.0).0 in omega arith

-- In an accepted catalog every lower group takes at least one register.
pub lower_groups_take_registers : (ws : List ℕ) (n : ℕ) → checked ws ≡ accepted n
    → Each (EachLowerGroup (λ enclosing level h ps following. 1 ≤ points_size ps)) (definitions ws)
lower_groups_take_registers =
    let P : List Point → ℕ → Head → List Point → Groups → Type 0 = λ enclosing level h ps following. 1 ≤ points_size ps in
    of_models (EachLowerGroup P) (λ d s. of_lower_groups P d.top.points
    (λ enclosing level h ps following head some each. group_size (ps ++ enclosing) ps some each) d refl s)
