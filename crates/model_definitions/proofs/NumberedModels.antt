-- The frames of models keep rule 6 if and only if the ids are new, and not 0 or 65535, and in each model the numbers are distinct
-- and none is 0.
use mathlib.Core.Path.{◌≡◌, sym, subst}
use mathlib.Core.Bool.{false, ◌||◌}
use mathlib.Core.List.{List, [], ◌∷◌, ◌++◌}
use mathlib.Core.Logic.{◌↔◌}
use Prim.Native.Nat.{ℕ, ◌≤◌}
use native.Mathlib.Omega.{arith}
use borrow.Author.Tests.{eqb-false, ne_eqb}
use lib.Dec.{eqb}
use Rattle.lists.specs.Each.{Each}
use Rattle.lists.specs.Members.{among, Distinct}
use Rattle.lists.proofs.TestLaws.{neither}
use Rattle.catalog_frames.specs.Frames.{Point, Frame, model_frame, group_frame, point_frame, end_frame, malformed}
use Rattle.model_definitions.specs.Definitions.{Groups, no_group, group, Definition, point_frames, group_frames, definition_frames}
use Rattle.model_definitions.specs.Soundness.{numbers_of}
use Rattle.model_definitions.proofs.AcceptedFrames.{Numbered}
use Rattle.model_definitions.proofs.TreeFrames.{group_frames_lem}
use Rattle.model_definitions.proofs.NewNumbers.{New, all_new}

-- The frame is not a model frame.
abbrev InModel : Frame → Type 0
InModel (model_frame id) = ⊥
InModel (group_frame h) = Unit {0}
InModel (point_frame p) = Unit {0}
InModel end_frame = Unit {0}
InModel malformed = Unit {0}

-- No model frame is among the frames of points and the frames after them, if none is among the latter.
points_in_model : (ps : List Point) (fs : List Frame) → Each InModel fs → Each InModel (point_frames ps ++ fs)
points_in_model [] fs e = e
points_in_model (p ∷ ps) fs e = (tt, points_in_model ps fs e)

-- The same for the frames of groups.
groups_in_model : (g : Groups) (fs : List Frame) → Each InModel fs → Each InModel (group_frames g ++ fs)
groups_in_model no_group fs e = e
groups_in_model (group h ps inside following) fs e =
    let tail = group_frames following ++ fs in
    let inner = groups_in_model inside (end_frame ∷ tail) (tt, groups_in_model following fs e) in
    subst (Each InModel) (sym (group_frames_lem h ps inside following fs))
    (tt, points_in_model ps (group_frames inside ++ (end_frame ∷ tail)) inner)

-- The numbers used after `ns`, the newest first.
abbrev pub used_after : List ℕ → List ℕ → List ℕ
used_after [] used = used
used_after (n ∷ ns) used = used_after ns (n ∷ used)

-- One more number at the front: it keeps rule 6 if and only if it is not 0 and is new.
one_more : {A B : Type 0} (n : ℕ) (used ns : List ℕ) → A ↔ (Each (λ m. 1 ≤ m) ns × New (n ∷ used) ns × B)
    → ((eqb n 0 || among n used ≡ false) × A) ↔ (Each (λ m. 1 ≤ m) (n ∷ ns) × New used (n ∷ ns) × B)
one_more n used ns rest =
    let h = neither (eqb n 0) (among n used) in (
      λ w.
          let f = h.0 w.0 in
          let z = eqb-false n 0 f.0 in
          let r = rest.0 w.1 in
          ((omega arith, r.0), (f.1, r.1), r.2),
      λ w.
          let z = w.0.0 in
          (h.1 (ne_eqb n 0 (λ q. absurd (omega arith)), w.1.0), rest.1 (w.0.1, w.1.1, w.2)),
    )

module _ (n : ℕ) where
  -- Frames in a model keep rule 6 if and only if their numbers are new and not 0, and the frames after them keep it.
  numbers_in_model : (ids used : List ℕ) (fs following : List Frame) → Each InModel fs
      → Numbered n ids used (fs ++ following)
      ↔ (Each (λ m. 1 ≤ m) (numbers_of fs) × New used (numbers_of fs) × Numbered n ids (used_after (numbers_of fs) used) following)
  numbers_in_model ids used [] following e = (λ w. (tt, tt, w), λ w. w.2)
  numbers_in_model ids used (model_frame id ∷ fs) following e = absurd e.0
  numbers_in_model ids used (group_frame h ∷ fs) following e =
      one_more h.number used (numbers_of fs) (numbers_in_model ids (h.number ∷ used) fs following e.1)
  numbers_in_model ids used (point_frame p ∷ fs) following e =
      one_more p.number used (numbers_of fs) (numbers_in_model ids (p.number ∷ used) fs following e.1)
  numbers_in_model ids used (end_frame ∷ fs) following e = numbers_in_model ids used fs following e.1
  numbers_in_model ids used (malformed ∷ fs) following e = numbers_in_model ids used fs following e.1

  -- A model's frames keep rule 6 if and only if its id is new and not 0 or 65535, its numbers are distinct and not 0, and the
  -- frames after it keep it.
  pub numbered_model : (ids used : List ℕ) (d : Definition) (fs : List Frame)
      → Numbered n ids used (definition_frames d ++ fs)
      ↔ (((d.id ≡ 0 → ⊥) × (d.id ≡ 65535 → ⊥) × (among d.id ids ≡ false))
      × Each (λ m. 1 ≤ m) (numbers_of (definition_frames d))
      × Distinct (numbers_of (definition_frames d))
      × Numbered n (d.id ∷ ids) (used_after (numbers_of (definition_frames d)) []) fs)
  numbered_model ids used d fs =
      let id = d.id in
      let groups = group_frames d.top.groups ++ (end_frame ∷ []) in
      let in_model_lem = points_in_model d.top.points groups (groups_in_model d.top.groups (end_frame ∷ []) (tt, tt)) in
      let rest = numbers_in_model (id ∷ ids) [] (point_frames d.top.points ++ groups) fs in_model_lem in
      let both = neither (eqb id 0 || eqb id 65535) (among id ids) in
      let ends = neither (eqb id 0) (eqb id 65535) in
      let distinct = all_new (numbers_of (definition_frames d)) in (
        λ w.
            let b = both.0 w.0 in
            let e = ends.0 b.0 in
            let r = rest.0 w.1 in
            ((eqb-false id 0 e.0, eqb-false id 65535 e.1, b.1), r.0, distinct.0 r.1, r.2),
        λ w. (
          both.1 (ends.1 (ne_eqb id 0 w.0.0, ne_eqb id 65535 w.0.1), w.0.2),
          rest.1 (w.1, distinct.1 w.2, w.3),
        ),
      )
