-- Frame i by its kind: the words that its kind does not name decide whether it is malformed.
use mathlib.Core.Path.{◌≡◌}
use mathlib.Core.Bool.{Bool, true, false}
use mathlib.Core.List.{List}
use Prim.Native.Nat.{ℕ}
use borrow.Author.Tests.{eqb-true, eqb-false}
use lib.Dec.{eqb}
use Rattle.lists.proofs.TestOutcomes.{by_test}
use Rattle.catalog_frames.specs.Frames.{Frame, model_frame, group_frame, point_frame, end_frame, malformed, word, frame_of, frame_at}
use Rattle.catalog_frames.specs.InternalWords.{zero_words, head_words, point_words}

-- `f` if `b` is true (the words that the kind does not name are 0), else malformed.
abbrev pub formed : Bool → Frame → Frame
formed b f = elim b [ true ↦ f | false ↦ malformed ]

module _ (ws : List ℕ) (i k : ℕ) (kind : k ≡ word ws i 0) where
  -- A property that holds in the case of each kind holds of frame i.
  pub by_kind : (P : Frame → Type 0) → (k ≡ 1 → P (formed (zero_words ws i 2 6) (model_frame (word ws i 1))))
      → (k ≡ 2 → P (formed (zero_words ws i 5 3) (group_frame (head_words ws i)))) → (k ≡ 3 → P (point_frame (point_words ws i)))
      → (k ≡ 4 → P (formed (zero_words ws i 1 7) end_frame))
      → ((k ≡ 1 → ⊥) → (k ≡ 2 → ⊥) → (k ≡ 3 → ⊥) → (k ≡ 4 → ⊥) → P malformed) → P (frame_at ws i)
  unfolding frame_of zero_words
  by_kind P a b c d e =
      rw (← kind)
      (by_test P (eqb k 1) (λ t. a (eqb-true k 1 t)) λ x.
      by_test P (eqb k 2) (λ t. b (eqb-true k 2 t)) λ y.
      by_test P (eqb k 3) (λ t. c (eqb-true k 3 t)) λ z.
      by_test P (eqb k 4) (λ t. d (eqb-true k 4 t)) λ w.
      e (eqb-false k 1 x) (eqb-false k 2 y) (eqb-false k 3 z) (eqb-false k 4 w))

  -- A point frame is never malformed.
  pub kind_3 : k ≡ 3 → frame_at ws i ≡ point_frame (point_words ws i)
  unfolding frame_of
  kind_3 h = rw (← kind, h)
