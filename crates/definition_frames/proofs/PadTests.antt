-- The test whether a pad is left out: case by case, and for the content of a group.
use mathlib.Core.Path.{◌≡◌, refl, sym, ap, ◌∙◌}
use mathlib.Core.Bool.{Bool, true, false, ◌&&◌}
use mathlib.Core.List.{List}
use mathlib.Core.Option.{Option, none, some}
use Prim.Native.Nat.{ℕ, ◌+◌}
use borrow.Author.Tests.{eq-eqb, ne_eqb}
use lib.Dec.{eqb}
use Rattle.catalog_frames.specs.Frames.{Point, Head, frame_in}
use Rattle.model_definitions.specs.Definitions.{points_size}
use Rattle.layout.specs.Reading.{ends_with_pad, has_no_group, pad_left_out}
use Rattle.layout.specs.FrameWalk.{head_of}
use Rattle.layout.specs.InternalWalks.{content_from, ParsesAt}
use Rattle.layout.proofs.LeftOutPad.{group_after, no_group_after}
use Rattle.definition_frames.specs.CodeTypes.{PointRun, RunOf, is_none, lacks_pad, to_spec_run}
use Rattle.definition_frames.specs.declared.runs.Run.{Run}

-- The cases, in the order of the tests.
module _ (id : ℕ) (run : PointRun) (next : Option Head) (len : ℕ) where
  pub another_id : (id ≡ 1 → ⊥) → lacks_pad id run next len ≡ false
  another_id n = simp (ne_eqb id 1 n)

  pub no_pad : id ≡ 1 → run.pad ≡ false → lacks_pad id run next len ≡ false
  no_pad i p = simp (eq-eqb id 1 i, p)

  pub another_length : id ≡ 1 → run.pad ≡ true → (len + 1 ≡ run.size → ⊥) → lacks_pad id run next len ≡ false
  another_length i p n = simp (eq-eqb id 1 i, p, ne_eqb (len + 1) run.size n)

  pub one_short : id ≡ 1 → run.pad ≡ true → len + 1 ≡ run.size → lacks_pad id run next len ≡ is_none next
  one_short i p l = simp (eq-eqb id 1 i, p, eq-eqb (len + 1) run.size l)

-- The test for groups may come first or last.
groups_first : (p l g : Bool) → p && (l && g) ≡ g && (p && l)
groups_first true true true = refl
groups_first true true false = refl
groups_first true false true = refl
groups_first true false false = refl
groups_first false l true = refl
groups_first false l false = refl

-- Where a group is open at `first`, the run of its points and the frame after them give the same result as its content.
pub content_pad : (ws : List ℕ) (first : ℕ) → ParsesAt ws first → (r : Run) → RunOf (content_from ws first).points first r → (id len : ℕ)
    → lacks_pad id (to_spec_run r) (head_of (frame_in ws r.next)) len ≡ pad_left_out id (content_from ws first) len
content_pad ws first s r x id len =
    ap (λ b. eqb id 1 && b)
    (ap (λ b. b && (eqb (len + 1) r.size && is_none (head_of (frame_in ws r.next)))) x.pad
    ∙ ap (λ n. ends_with_pad ps && (eqb (len + 1) n && is_none (head_of (frame_in ws r.next)))) x.size
    ∙ groups_first (ends_with_pad ps) (eqb (len + 1) (points_size ps)) (is_none (head_of (frame_in ws r.next)))
    ∙ ap (λ b. b && (ends_with_pad ps && eqb (len + 1) (points_size ps))) (go (head_of (frame_in ws r.next)) refl))
  where
    ps : List Point
    ps = (content_from ws first).points

    go : (o : Option Head) → head_of (frame_in ws r.next) ≡ o → is_none o ≡ has_no_group (content_from ws first).groups
    go none e = sym (no_group_after ws first r.next s x.next e)
    go (some h) e = sym (group_after ws first r.next s x.next h e)
