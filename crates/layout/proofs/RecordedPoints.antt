-- Points recorded in the table: the scope that it holds, and the points that begin before the end of a body.
use mathlib.Core.Path.{◌≡◌, refl, ap, subst, fun_ext, ◌∙◌}
use mathlib.Core.Bool.{Bool, true, false}
use mathlib.Core.List.{List, [], ◌∷◌, ◌++◌}
use Prim.Native.Nat.{ℕ, zero, suc, ◌+◌, ◌*◌, ◌/◌, ◌≤◌, ◌<◌}
use native.Mathlib.Omega.{arith}
use borrow.Author.Tests.{eqb-true, eqb-false, lt-ltb, le-ltb}
use lib.Dec.{eqb}
use lib.ListN.{length, get_or, drop, set, length-set}
use lib.Seq.{get_or-set_same, get_or-set_other}
use Rattle.lists.specs.Each.{Each}
use Rattle.lists.proofs.TestOutcomes.{by_test}
use Rattle.lists.proofs.EachLaws.{each_drop}
use Rattle.registers.specs.Registers.{all_zero}
use Rattle.catalog_frames.specs.Frames.{Point, Frame, model_frame, group_frame, point_frame, end_frame, malformed, frame_of, word, frame_at, frames_from, frames}
use Rattle.frame_rules.specs.FrameTests.{is_size_of}
use Rattle.model_definitions.specs.Definitions.{points_size, point_frames, group_frames}
use Rattle.model_definitions.proofs.GroupSizes.{type_size}
use Rattle.layout.specs.Points.{Scope}
use Rattle.layout.specs.Layout.{with_point, within, points_at}
use Rattle.layout.specs.PointTables.{scope_in, table_with, present_within}
use Rattle.layout.specs.InternalWalks.{content_from, ParsesAt, instance_in, IsTable}

-- ---- Recording

pub table_with_length : (body : List ℕ) (offset : ℕ) (ps : List Point) (table : List ℕ)
    → length (table_with body offset ps table) ≡ length table
unfolding table_with
table_with_length body offset [] table = refl
table_with_length body offset (p ∷ ps) table =
    table_with_length body (offset + p.size) ps (set table p.number (get_or body offset 0))
    ∙ length-set table p.number (get_or body offset 0)

-- Recording a point whose number the table has adds it to the scope.
one_recorded : (table : List ℕ) (number register : ℕ) → number < length table → (n : ℕ)
    → scope_in (set table number register) n ≡ with_point number register (scope_in table) n
one_recorded table number register h n = go (eqb n number) refl
  where
    go : (b : Bool) → eqb n number ≡ b
        → get_or (set table number register) n 0 ≡ elim b [ true ↦ register | false ↦ get_or table n 0 ]
    go true e = rw (eqb-true n number e) (get_or-set_same table number register 0 h)
    go false e = get_or-set_other table number n register 0 (eqb-false n number e)

-- After recording the points of an instance, the table holds the scope inside it.
pub table_with_scope : (body : List ℕ) (offset : ℕ) (ps : List Point) (table : List ℕ) → IsTable table
    → Each (λ p. p.number < 65536) ps → scope_in (table_with body offset ps table) ≡ within body offset ps (scope_in table)
unfolding table_with within
table_with_scope body offset [] table t e = refl
table_with_scope body offset (p ∷ ps) table t e =
    let register = get_or body offset 0 in
    let here = one_recorded table p.number register (rw t e.0) in
    table_with_scope body (offset + p.size) ps (set table p.number register) (length-set table p.number register ∙ t) e.1
    ∙ ap (λ (s : Scope). within body (offset + p.size) ps s) (fun_ext here)

-- ---- Numbers

-- The table has an entry for the number of a point frame.
abbrev InTable : Frame → Type 0
InTable (model_frame id) = Unit {0}
InTable (group_frame h) = Unit {0}
InTable (point_frame p) = p.number < 65536
InTable end_frame = Unit {0}
InTable malformed = Unit {0}

module _ (ws : List ℕ) (words : (k : ℕ) → get_or ws k 0 < 65536) where
  frame_in_table : (i : ℕ) → InTable (frame_at ws i)
  unfolding frame_of
  frame_in_table i =
      let w = word ws i in
      let kind = w 0 in
      let after3 = w 3 ∷ w 4 ∷ w 5 ∷ w 6 ∷ w 7 ∷ [] in
      by_test InTable (eqb kind 1) (λ t. by_test InTable (all_zero (w 2 ∷ after3)) (λ z. tt) (λ z. tt)) λ n.
      by_test InTable (eqb kind 2) (λ t. by_test InTable (all_zero (w 5 ∷ w 6 ∷ w 7 ∷ [])) (λ z. tt) (λ z. tt)) λ n.
      by_test InTable (eqb kind 3) (λ t. words (8 * i + 1)) λ n.
      by_test InTable (eqb kind 4) (λ t. by_test InTable (all_zero (w 1 ∷ w 2 ∷ after3)) (λ z. tt) (λ z. tt)) (λ n. tt)

  frames_in_table : (i n : ℕ) → Each InTable (frames_from ws i n)
  unfolding frames_from
  frames_in_table i zero = tt
  frames_in_table i (suc n) = (frame_in_table i, frames_in_table (suc i) n)

points_in_table : (ps : List Point) (fs : List Frame) → Each InTable (point_frames ps ++ fs) → Each (λ p. p.number < 65536) ps
points_in_table [] fs e = tt
points_in_table (p ∷ ps) fs e = (e.0, points_in_table ps fs e.1)

-- The words of a catalog are 16 bits, so the table has an entry for the number of each of its points.
pub numbers_in_table : (ws : List ℕ) → ((k : ℕ) → get_or ws k 0 < 65536) → (i : ℕ) → ParsesAt ws i
    → Each (λ p. p.number < 65536) (content_from ws i).points
numbers_in_table ws words i s =
    let all : Each InTable (drop i (frames ws)) = each_drop InTable i (frames ws) (frames_in_table ws words 0 (length ws / 8)) in
    points_in_table (content_from ws i).points (group_frames (content_from ws i).groups ++ (end_frame ∷ s.following))
    (subst (Each InTable) s.here all)

-- ---- Points that begin before the end

-- All points do, where they are in the body.
pub present_all : (len offset : ℕ) (ps : List Point) → Each (λ p. is_size_of p.type_code p.size ≡ true) ps
    → offset + points_size ps ≤ len → present_within len offset ps ≡ ps
unfolding present_within
present_all len offset [] e h = refl
present_all len offset (p ∷ ps) e h =
    let one = (type_size p.type_code p.size e.0).0 in
    simp (present_within, lt-ltb offset len (omega arith), present_all len (offset + p.size) ps e.1 (omega arith))

-- None does, past the end.
pub present_past : (len offset : ℕ) (ps : List Point) → len ≤ offset → present_within len offset ps ≡ []
unfolding present_within
present_past len offset [] h = refl
present_past len offset (p ∷ ps) h = simp (present_within, le-ltb offset len h)

-- Before the end, the first point does, and those of the others that do.
pub present_first : (len offset : ℕ) (p : Point) (ps : List Point) → offset < len
    → present_within len offset (p ∷ ps) ≡ p ∷ present_within len (offset + p.size) ps
unfolding present_within
present_first len offset p ps h = simp (present_within, lt-ltb offset len h)

-- Recording the points that begin before the end: the first point and then the others, no point, or none past the end.
pub record_first : (body : List ℕ) (offset : ℕ) (p : Point) (ps : List Point) (table : List ℕ) → offset < length body
    → table_with body (offset + p.size) (present_within (length body) (offset + p.size) ps) (set table p.number (get_or body offset 0))
    ≡ table_with body offset (present_within (length body) offset (p ∷ ps)) table
unfolding table_with
record_first body offset p ps table h = rw (present_first (length body) offset p ps h)

pub record_none : (body : List ℕ) (offset : ℕ) (table : List ℕ) → table_with body offset (present_within (length body) offset []) table ≡ table
unfolding table_with present_within
record_none body offset table = refl

pub record_past : (body : List ℕ) (offset : ℕ) (ps : List Point) (table : List ℕ) → length body ≤ offset
    → table_with body offset (present_within (length body) offset ps) table ≡ table
unfolding table_with
record_past body offset ps table h = rw (present_past (length body) offset ps h)

-- The points of an instance that is in the body, by a table in which they were recorded.
pub own_points_lem : (body : List ℕ) (offset : ℕ) (ps : List Point) (table path new : List ℕ) → IsTable table
    → Each (λ p. p.number < 65536) ps → present_within (length body) offset ps ≡ ps
    → new ≡ table_with body offset (present_within (length body) offset ps) table
    → points_at body (instance_in new path) offset (present_within (length body) offset ps)
    ≡ points_at body (record { scope = within body offset ps (scope_in table); path = path }) offset ps
own_points_lem body offset ps table path new t numbers all e =
    let whole : new ≡ table_with body offset ps table = e ∙ ap (λ (qs : List Point). table_with body offset qs table) all in
    let scope : scope_in new ≡ within body offset ps (scope_in table) =
    ap (λ (l : List ℕ). scope_in l) whole ∙ table_with_scope body offset ps table t numbers in
    ap (points_at body (instance_in new path) offset) all
    ∙ ap (λ (s : Scope). points_at body (record { scope = s; path = path }) offset ps) scope
