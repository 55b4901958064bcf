-- The two ways in which a model with points is read: with its last pad left out, or in full.
use mathlib.Core.Path.{◌≡◌, subst}
use mathlib.Core.Bool.{true, false}
use mathlib.Core.List.{List, [], ◌∷◌}
use Prim.Native.Nat.{ℕ, ◌≤◌}
use native.Mathlib.Omega.{arith}
use borrow.Author.Tests.{eqb-true, le-ltb, ltb-false}
use lib.Dec.{ltb}
use lib.ListN.{length}
use Rattle.lists.specs.Each.{Each}
use Rattle.lists.specs.Members.{In, first, later}
use Rattle.lists.proofs.TestOutcomes.{impossible, by_test}
use Rattle.catalog_frames.specs.Frames.{Point, sunssf, pad}
use Rattle.model_definitions.specs.Definitions.{Content, points_size}
use Rattle.model_definitions.specs.Soundness.{ScaleResolves}
use Rattle.layout.specs.Points.{ModelPoint}
use Rattle.layout.specs.Layout.{top_scope, count_unimplemented, fits, top_instance, points_at, content_at}
use Rattle.layout.specs.Reading.{Fault, Reading, unknown, faulty, points, below_top_points, count_point_unimplemented, not_the_size, ends_with_pad, all_but_last, pad_left_out, read_full, read_by}
use Rattle.layout.specs.InternalWalks.{HasPoints}

-- A body that is read in full: it has all the top points, no count point is unimplemented, and its length is the size.
pub record Full (c : Content) (body : List ℕ) : Type 0 where
  pub capacity : points_size c.points ≤ length body
  pub counted : count_unimplemented (top_scope c.points body) c.groups ≡ false
  pub fitting : fits c body ≡ true

-- The two ways to read a model with points: with its last pad left out, or in full.
pub data HowRead (id : ℕ) (c : Content) (body : List ℕ) : Reading → Type 0 where
  reading_left_out : pad_left_out id c (length body) ≡ true
      → HowRead id c body
      (points (points_at body (top_instance (all_but_last c.points) body) 0 (all_but_last c.points)))
  full : pad_left_out id c (length body) ≡ false → Full c body → HowRead id c body (points (content_at c body))

module _ (id : ℕ) (c : Content) (body : List ℕ) where
  -- The points of a model whose last pad is left out.
  abbrev pub points_left : List ModelPoint
  points_left = points_at body (top_instance (all_but_last c.points) body) 0 (all_but_last c.points)

  -- What holds of a model with its pad left out, of each fault, and of a model in full, holds of the reading.
  pub by_cases : (P : Reading → Type 0) → (pad_left_out id c (length body) ≡ true → P (points points_left))
      → ((fault : Fault) → P (faulty fault))
      → (pad_left_out id c (length body) ≡ false → Full c body → P (points (content_at c body))) → P (read_by id c body)
  unfolding read_by read_full
  by_cases P left bad whole =
      by_test P (pad_left_out id c (length body)) left (λ kept.
      by_test P (ltb (length body) (points_size c.points)) (λ _. bad below_top_points) (λ r.
      by_test P (count_unimplemented (top_scope c.points body) c.groups) (λ _. bad count_point_unimplemented) (λ u.
      by_test P (fits c body)
      (λ f. whole kept (record { capacity = ltb-false (length body) (points_size c.points) r; counted = u; fitting = f }))
      (λ _. bad not_the_size))))

  -- The reading with the pad left out,
  pub read_left : pad_left_out id c (length body) ≡ true → read_by id c body ≡ points points_left
  unfolding read_by
  read_left e = simp (read_by, e)

  -- and in full.
  pub read_full_lem : pad_left_out id c (length body) ≡ false → Full c body → read_by id c body ≡ points (content_at c body)
  unfolding read_by read_full
  read_full_lem e f =
      simp (read_by, e, read_full, le-ltb (length body) (points_size c.points) f.capacity, f.counted, f.fitting)

  -- A reading with points is one of the two.
  pub how_read : HasPoints (read_by id c body) → HowRead id c body (read_by id c body)
  how_read = by_cases (λ r. HasPoints r → HowRead id c body r) (λ t h. reading_left_out t) (λ fault h. absurd h) (λ k f h. full k f)

  -- What holds of the points in both ways holds of the points of the reading.
  pub by_reading : (P : List ModelPoint → Type 0) → (pad_left_out id c (length body) ≡ true → P points_left)
      → (pad_left_out id c (length body) ≡ false → Full c body → P (content_at c body))
      → (ps : List ModelPoint) → read_by id c body ≡ points ps → P ps
  by_reading P left whole ps =
      by_cases (λ r. r ≡ points ps → P ps) (λ t e. let same : points_left ≡ ps = cc in subst P same (left t))
      (λ fault e. impossible (cc)) (λ k f e. let same : content_at c body ≡ ps = cc in subst P same (whole k f))

  -- The reading by a definition is not unknown.
  pub not_unknown : read_by id c body ≡ unknown → ⊥
  not_unknown = by_cases (λ r. r ≡ unknown → ⊥) (λ t e. impossible (cc)) (λ fault e. impossible (cc)) (λ k f e. impossible (cc))

-- ---- Scale factors where the last pad is left out

-- A scale factor is not a pad, so it is not left out.
not_last : (q : Point) (ps : List Point) → ends_with_pad ps ≡ true → q.type_code ≡ sunssf → In q ps → In q (all_but_last ps)
unfolding ends_with_pad all_but_last
not_last q (p ∷ []) e t first = let z = eqb-true q.type_code pad e in absurd (omega (arith, z, t))
not_last q (p ∷ r ∷ ps) e t first = first
not_last q (p ∷ r ∷ ps) e t (later i) = later (not_last q (r ∷ ps) e t i)
not_last q [] e t i = elim i [ ]
not_last q (p ∷ []) e t (later i) = elim i [ ]

-- So the scale factors of the points that are left resolve among these.
pub resolves_left : (ps qs : List Point) → ends_with_pad ps ≡ true → Each (ScaleResolves ps) qs
    → Each (ScaleResolves (all_but_last ps)) qs
resolves_left ps [] e r = tt
resolves_left ps (q ∷ qs) e r =
    (λ k. let f = r.0 k in (f.0, not_last f.0 ps e f.3 f.1, f.2, f.3), resolves_left ps qs e r.1)
