-- A pad that is left out: the points without it, and the models that leave it out.
use mathlib.Core.Path.{◌≡◌, refl, sym, ap, ◌∙◌}
use mathlib.Core.Bool.{true, false, ◌&&◌}
use mathlib.Core.List.{List, [], ◌∷◌}
use mathlib.Core.Option.{none, some}
use Prim.Native.Nat.{ℕ, ◌+◌, ◌≤◌, ◌<◌}
use native.Mathlib.Omega.{arith}
use borrow.Author.Tests.{lt-ltb, le-ltb, eqb-true, leb-true}
use lib.Dec.{eqb, leb}
use lib.ListN.{length}
use Rattle.lists.specs.Each.{Each}
use Rattle.lists.proofs.TestOutcomes.{clash, both}
use Rattle.point_types.specs.Rows.{rows, row_among, registers_of}
use Rattle.catalog_frames.specs.Frames.{Point, Head, frame_in, pad}
use Rattle.frame_rules.specs.FrameTests.{is_size_of}
use Rattle.model_definitions.specs.Definitions.{Groups, no_group, group, Content, points_size}
use Rattle.model_definitions.specs.Soundness.{SoundPoint}
use Rattle.model_definitions.proofs.GroupSizes.{point_size}
use Rattle.layout.specs.Layout.{fill_measured, fill_of}
use Rattle.layout.specs.Reading.{ends_with_pad, all_but_last, has_no_group, pad_left_out}
use Rattle.layout.specs.FrameWalk.{head_of}
use Rattle.layout.specs.PointTables.{present_within}
use Rattle.layout.specs.InternalWalks.{content_from, ParsesAt}
use Rattle.layout.proofs.FramePosition as position

-- A size that a type of one register may have is 1.
pub one_register_size : (code size : ℕ) → registers_of code ≡ some (1, 1) → is_size_of code size ≡ true → size ≡ 1
unfolding is_size_of
one_register_size code size q e =
    let s = both (leb 1 size) (leb size 1) (rw (is_size_of, q) at e) in
    let above = leb-true 1 size s.0 in
    let below = leb-true size 1 s.1 in
    omega arith

-- So the size of a pad is 1.
pad_size : (size : ℕ) → is_size_of pad size ≡ true → size ≡ 1
unfolding registers_of row_among rows
pad_size size = one_register_size pad size refl

-- Points that end with a pad are one more than all but the last.
pub but_one : (ps : List Point) → ends_with_pad ps ≡ true → length ps ≡ length (all_but_last ps) + 1
unfolding ends_with_pad all_but_last
but_one [] e = clash (sym e)
but_one (p ∷ []) e = refl
but_one (p ∷ q ∷ ps) e = let r = but_one (q ∷ ps) e in omega arith

-- Without the pad at their end, points take one register less.
pub without_pad : (in_scope ps : List Point) → Each (SoundPoint in_scope) ps → ends_with_pad ps ≡ true
    → points_size (all_but_last ps) + 1 ≡ points_size ps
unfolding ends_with_pad all_but_last
without_pad in_scope [] e t = clash (sym t)
without_pad in_scope (p ∷ []) e t =
    let code = eqb-true p.type_code pad t in
    let one = pad_size p.size (rw code at e.0.sized) in
    omega arith
without_pad in_scope (p ∷ q ∷ ps) e t = let r = without_pad in_scope (q ∷ ps) e.1 t in omega (arith, r)

-- What holds of each point holds of all but the last.
pub each_but_last : (P : Point → Type 0) (ps : List Point) → Each P ps → Each P (all_but_last ps)
unfolding all_but_last
each_but_last P [] e = tt
each_but_last P (p ∷ []) e = tt
each_but_last P (p ∷ q ∷ ps) e = (e.0, each_but_last P (q ∷ ps) e.1)

-- Where the length is one short of points that end with a pad, exactly the points before the pad begin before the end.
present_but_last : (in_scope : List Point) (len offset : ℕ) (ps : List Point) → Each (SoundPoint in_scope) ps → ends_with_pad ps ≡ true
    → len + 1 ≡ offset + points_size ps → present_within len offset ps ≡ all_but_last ps
unfolding ends_with_pad all_but_last present_within
present_but_last in_scope len offset [] s e q = clash (sym e)
present_but_last in_scope len offset (p ∷ []) s e q =
    let t = eqb-true p.type_code pad e in
    let z : p.size ≡ 1 = pad_size p.size (rw t at s.0.sized) in
    let l : len ≤ offset = omega arith in
    rw (le-ltb offset len l, present_within)
present_but_last in_scope len offset (p ∷ r ∷ ps) s e q =
    let a = (point_size in_scope p s.0).0 in
    let b = (point_size in_scope r s.1.0).0 in
    let l : offset < len = omega arith in
    let rest = present_but_last in_scope len (offset + p.size) (r ∷ ps) s.1 e (omega arith) in
    rw (lt-ltb offset len l, present_within) (ap (λ xs. p ∷ xs) rest)

-- What it means that a pad is left out.
pub left_out : (id : ℕ) (c : Content) (len : ℕ) → pad_left_out id c len ≡ true
    → (has_no_group c.groups ≡ true) × (ends_with_pad c.points ≡ true) × (len + 1 ≡ points_size c.points)
left_out id c len e =
    let a = both (eqb id 1)
    (has_no_group c.groups && (ends_with_pad c.points && eqb (len + 1) (points_size c.points))) e in
    let b = both (has_no_group c.groups) (ends_with_pad c.points && eqb (len + 1) (points_size c.points)) a.1 in
    let d = both (ends_with_pad c.points) (eqb (len + 1) (points_size c.points)) b.1 in
    (b.0, d.0, eqb-true (len + 1) (points_size c.points) d.1)

-- Where the pad is left out, exactly the other top points begin before the end.
pub present_but_pad : (in_scope : List Point) (id : ℕ) (c : Content) (len : ℕ) → Each (SoundPoint in_scope) c.points
    → pad_left_out id c len ≡ true → present_within len 0 c.points ≡ all_but_last c.points
present_but_pad in_scope id c len s e =
    let l = left_out id c len e in present_but_last in_scope len 0 c.points s l.1 (omega arith)

-- A model without groups has a fill count of 0.
pub no_fill_lem : (c : Content) (body : List ℕ) → has_no_group c.groups ≡ true → fill_of c body ≡ 0
unfolding fill_of fill_measured
no_fill_lem c body e = go c.groups e
  where
    go : (g : Groups) → has_no_group g ≡ true → fill_of (record { points = c.points; groups = g }) body ≡ 0
    go no_group t = refl
    go (group h ps inside following) t = clash (sym t)

-- ---- The frame after the points

module _ (ws : List ℕ) (first next : ℕ) (s : ParsesAt ws first) (n : next ≡ first + length (content_from ws first).points) where
  -- If the frame after the points is a group frame, there are groups,
  pub group_after : (h : Head) → head_of (frame_in ws next) ≡ some h → has_no_group (content_from ws first).groups ≡ false
  group_after h e =
      let r = position.after_run ws first s in
      let at = first + length (content_from ws first).points in
      let f : head_of (frame_in ws at) ≡ some h = ap (λ i. head_of (frame_in ws i)) (sym n) ∙ e in
      let g = (position.group_next ws at r.2 r.0 h f).0 in
      ap has_no_group (sym r.1 ∙ g)

  -- and if it is not, there are none.
  pub no_group_after : head_of (frame_in ws next) ≡ none → has_no_group (content_from ws first).groups ≡ true
  no_group_after e =
      let r = position.after_run ws first s in
      let at = first + length (content_from ws first).points in
      let f : head_of (frame_in ws at) ≡ none = ap (λ i. head_of (frame_in ws i)) (sym n) ∙ e in
      ap has_no_group (sym r.1 ∙ position.no_group_lem ws at r.2 r.0 f)
