-- The places of the points of one model: each is a point of the definition, is in the body, and overlaps no other.
use mathlib.Core.Path.{◌≡◌, refl, sym, ap, ◌∙◌}
use mathlib.Core.Bool.{true, false}
use mathlib.Core.List.{List, [], ◌∷◌}
use mathlib.Core.Logic.{⊎_elim}
use Prim.Native.Nat.{ℕ, ◌+◌, ◌≤◌}
use native.Mathlib.Omega.{arith}
use lib.Dec.{eqb}
use lib.ListN.{length}
use Rattle.lists.specs.Each.{Each}
use Rattle.lists.specs.Members.{among, Distinct, In}
use Rattle.lists.proofs.TestOutcomes.{by_same_test}
use Rattle.lists.proofs.TestLaws.{neither}
use Rattle.lists.proofs.EachLaws.{each_implied, each_append, each_one, each_any}
use Rattle.lists.proofs.InLaws.{in_append_left, in_append_right, all_in}
use Rattle.catalog_frames.specs.Frames.{Point, Head}
use Rattle.model_definitions.specs.Definitions.{no_group, Content, Definition, points_size, point_frames}
use Rattle.model_definitions.specs.Soundness.{SoundDefinition, numbers_of}
use Rattle.model_definitions.proofs.GroupNumbers.{point_among, Apart, apart}
use Rattle.layout.specs.Points.{ModelPoint}
use Rattle.layout.specs.Layout.{counts_of, no_instance, top_instance, points_at, groups_at, content_at}
use Rattle.layout.specs.Reading.{points, all_but_last, read_by}
use Rattle.layout.specs.Tiling.{lower_points, defined_points, PointsTile, Rises}
use Rattle.layout.specs.Paths.{depth_in, agree_to, path_of}
use Rattle.layout.proofs.LeftOutPad.{each_but_last}
use Rattle.layout.proofs.BodyTiling.{read_tiled}
use Rattle.layout.proofs.TiledApart.{inside, tiling_rises}
use Rattle.layout.proofs.TiledApart as tiled
use Rattle.layout.proofs.Readings.{points_left, by_reading}
use Rattle.layout.proofs.Places.{Place}
use Rattle.layout.proofs.PointAddresses.{offset_in, address_in, agree_address, Reads, Own, each_own, Lower, each_lower, lower_among}

-- ---- The addresses of a model's points

-- A point is one of a definition's points, begins at the address by its number and its path, and has the raw value of its
-- registers.
abbrev At : Definition → List ℕ → (ℕ → List ℕ → ℕ) → ModelPoint → Type 0
At d body address p =
    (In p.definition (defined_points d)) × (p.offset ≡ address p.definition.number (path_of p)) × Reads body p

-- Each point of a model is so, and the address depends only on the instance numbers that lead to the point.
record Addressed (d : Definition) (body : List ℕ) (ps : List ModelPoint) : Type 0 where
  address : ℕ → List ℕ → ℕ
  near : (n : ℕ) (xs ys : List ℕ) → length xs ≡ length ys → agree_to (depth_in n d.top.groups) xs ys ≡ true
      → address n xs ≡ address n ys
  each : Each (At d body address) ps

-- The numbers of a sound definition's top points and groups are all different.
top_apart : (d : Definition) → SoundDefinition d → Apart d.top.points d.top.groups no_group
top_apart d s = apart d.top.points d.top.groups no_group s.distinct

-- The number of registers before point n, on a path into the groups of the top group.
unfoldable address_of : Content → (Head → ℕ) → ℕ → List ℕ → ℕ
address_of c count n path =
    elim (among n (numbers_of (point_frames c.points))) [
      | true ↦ offset_in n c.points
      | false ↦ points_size c.points + address_in count n path c.groups
    ]

module _ (d : Definition) (body : List ℕ) (count : Head → ℕ) where
  -- It depends only on the instance numbers that lead to the point.
  agree_top : (n : ℕ) (xs ys : List ℕ) → length xs ≡ length ys → agree_to (depth_in n d.top.groups) xs ys ≡ true
      → address_of d.top count n xs ≡ address_of d.top count n ys
  unfolding address_of
  agree_top n xs ys l e =
      by_same_test (λ a b. a ≡ b) (among n (numbers_of (point_frames d.top.points))) (λ q. refl)
      (λ q. ap (λ a. points_size d.top.points + a) (agree_address count n d.top.groups xs ys l e))

  -- A top point begins at its address,
  own_at : (p : ModelPoint) → Own body no_instance 0 d.top.points p → At d body (address_of d.top count) p
  unfolding address_of
  own_at p o =
      let ps = d.top.points in
      let a = o.addressed in (
        in_append_left p.definition ps (lower_points d.top.groups) o.defined,
        rw (point_among p.definition ps o.defined, address_of) (omega (arith, a)),
        o.reads,
      )

  -- and so does a point of the groups.
  lower_at : SoundDefinition d → (p : ModelPoint)
      → Lower body count 0 no_instance (points_size d.top.points) d.top.groups p → At d body (address_of d.top count) p
  unfolding address_of
  lower_at s p o =
      let g = d.top.groups in
      let n = p.definition.number in (
        in_append_right p.definition d.top.points (lower_points g) o.defined,
        rw ((top_apart d s).inside_points n (lower_among p.definition g o.defined), address_of) o.addressed,
        o.reads,
      )

-- A model that is read in full.
content_addressed : (d : Definition) → SoundDefinition d → (body : List ℕ) → Addressed d body (content_at d.top body)
unfolding content_at
content_addressed d s body =
    let ps = d.top.points in
    let g = d.top.groups in
    let count = counts_of d.top body in
    let top = top_instance ps body in
    let t = top_apart d s in
    let own = points_at body top 0 ps in
    let lower = groups_at body count 2 top (points_size ps) g in
    let P = At d body (address_of d.top count) in
    record {
      address = address_of d.top count;
      near = agree_top d body count;
      each = each_append P own lower
          (each_implied (Own body no_instance 0 ps) P (own_at d body count) own (each_own body top 0 ps refl t.points_distinct))
          (each_implied (Lower body count 0 no_instance (points_size ps) g) P (lower_at d body count s) lower
          (each_lower body count 2 top (points_size ps) ps ps g s.groups (omega arith) refl t.inside_distinct));
    }

-- The points but the last are among the points,
pub in_but_last : (p : Point) (ps : List Point) → In p (all_but_last ps) → In p ps
in_but_last p ps = each_one (λ q. In q ps) (all_but_last ps) (each_but_last (λ q. In q ps) ps (all_in ps)) p

-- have no number that the points do not have,
none_but_last : (n : ℕ) (ps : List Point) → among n (numbers_of (point_frames ps)) ≡ false
    → among n (numbers_of (point_frames (all_but_last ps))) ≡ false
unfolding all_but_last
none_but_last n [] e = refl
none_but_last n (p ∷ []) e = refl
none_but_last n (p ∷ q ∷ ps) e =
    let f = (neither (eqb n p.number) (among n (numbers_of (point_frames (q ∷ ps))))).0 e in
    (neither (eqb n p.number) (among n (numbers_of (point_frames (all_but_last (q ∷ ps)))))).1
    (f.0, none_but_last n (q ∷ ps) f.1)

-- and have distinct numbers if the points have.
distinct_but_last : (ps : List Point) → Distinct (numbers_of (point_frames ps)) → Distinct (numbers_of (point_frames (all_but_last ps)))
unfolding all_but_last
distinct_but_last [] d = tt
distinct_but_last (p ∷ []) d = tt
distinct_but_last (p ∷ q ∷ ps) d = (none_but_last p.number (q ∷ ps) d.0, distinct_but_last (q ∷ ps) d.1)

-- A model whose last pad is left out.
pad_addressed : (d : Definition) → SoundDefinition d → (id : ℕ) (body : List ℕ) → Addressed d body (points_left id d.top body)
pad_addressed d s id body =
    let ps = d.top.points in
    let qs = all_but_last ps in
    let by : ℕ → List ℕ → ℕ = λ n path. offset_in n qs in
    let own_at : (p : ModelPoint) → Own body no_instance 0 qs p → At d body by p = λ p o.
    let a = o.addressed in
    let one = in_but_last p.definition ps o.defined in
    (in_append_left p.definition ps (lower_points d.top.groups) one, omega (arith, a), o.reads) in
    record {
      address = by;
      near = λ n xs ys l e. refl;
      each = each_implied (Own body no_instance 0 qs) (At d body by) own_at (points_at body (top_instance qs body) 0 qs)
          (each_own body (top_instance qs body) 0 qs refl (distinct_but_last ps (top_apart d s).points_distinct));
    }

-- A model that a sound definition reads.
read_addressed : (d : Definition) → SoundDefinition d → (id : ℕ) (body : List ℕ) (ps : List ModelPoint)
    → read_by id d.top body ≡ points ps → Addressed d body ps
read_addressed d s id body =
    by_reading id d.top body (Addressed d body) (λ _. pad_addressed d s id body) (λ _ _. content_addressed d s body)

-- ---- The points of a model that is read

module _ (d : Definition) (sound : SoundDefinition d) (body : List ℕ) (ps : List ModelPoint)
    (read : read_by d.id d.top body ≡ points ps) where
  -- The addresses of the points.
  addressed : Addressed d body ps
  addressed = read_addressed d sound d.id body ps read

  -- Each point is one of the definition's points, begins at its address and has the raw value of its registers.
  point_at : (p : ModelPoint) → In p ps → At d body addressed.address p
  point_at = each_one (At d body addressed.address) ps addressed.each

  -- So each is one of the definition's points,
  pub point_defined : (p : ModelPoint) → In p ps → In p.definition (defined_points d)
  point_defined p i = (point_at p i).0

  -- its raw value is that of its registers,
  pub point_reads : (p : ModelPoint) → In p ps → Reads body p
  point_reads p i = (point_at p i).2

  -- they tile the body,
  points_tile : PointsTile 0 (length body) ps
  points_tile = (read_tiled d sound d.id body ps read).tiles

  -- so they are in the order of their offsets,
  points_rise : Rises (λ p. p.offset) (λ p. p.definition.size) 0 ps
  points_rise = tiling_rises (λ p. p.offset) (λ p. p.definition.size) 0 (length body) ps points_tile

  -- each is in the body,
  pub point_inside : (p : ModelPoint) → In p ps → p.offset + p.definition.size ≤ length body
  point_inside p i = (inside (λ p. p.offset) (λ p. p.definition.size) 0 (length body) ps points_tile p i).2

  -- and overlaps no other point.
  pub point_places : (w : ModelPoint) → In w ps → Each (Place d.top w) ps
  point_places w i = each_any (Place d.top w) ps place
    where
      -- The place of each compared with w, by the order of the two and by their addresses.
      place : (p : ModelPoint) → In p ps → Place d.top w p
      place p j =
          record {
            same = tiled.same_start (λ p. p.offset) (λ p. p.definition.size) 0 ps points_rise w p i j;
            apart = λ e.
                ⊎_elim (λ q. absurd (e (ap (λ r. r.offset) q))) (λ b. b)
                (tiled.apart (λ p. p.offset) (λ p. p.definition.size) 0 ps points_rise w p i j);
            found = λ e a.
                (point_at p j).1
                ∙ ap (λ n. addressed.address n (path_of p)) e
                ∙ sym (addressed.near w.definition.number (path_of w) (path_of p) refl a)
                ∙ sym (point_at w i).1;
          }
