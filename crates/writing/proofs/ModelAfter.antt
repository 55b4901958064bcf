-- One model after a write: the point written holds the raw value, the points that it scales are rescaled, all others stay.
use mathlib.Core.Path.{◌≡◌, sym, ap, subst, ◌∙◌}
use mathlib.Core.Bool.{true, false}
use mathlib.Core.List.{List, ◌++◌}
use Prim.Native.Nat.{ℕ, ◌≤◌}
use native.Mathlib.Omega.{arith}
use borrow.Author.Tests.{eqb-true}
use lib.Dec.{eqb}
use lib.ListN.{length}
use lib.Seq.{sets, length-sets}
use Rattle.lists.specs.Each.{Each, Pairwise}
use Rattle.lists.specs.Members.{In}
use Rattle.lists.proofs.TestOutcomes.{both, fails}
use Rattle.lists.proofs.EachLaws.{each_one, each_parts}
use Rattle.lists.proofs.InLaws.{in_append_left}
use Rattle.registers.specs.Registers.{split}
use Rattle.values.specs.Classes.{is_unimplemented_class}
use Rattle.catalog_frames.specs.Frames.{Point, read_only}
use Rattle.frame_rules.specs.FrameTests.{is_size_of}
use Rattle.model_definitions.specs.Definitions.{Definition, points_size}
use Rattle.model_definitions.specs.Soundness.{SoundPoint, SoundDefinition, ScaleResolves}
use Rattle.model_definitions.proofs.References.{points_resolve}
use Rattle.layout.specs.Points.{ModelPoint, Scope, point_class}
use Rattle.layout.specs.Layout.{nothing, top_scope, counts_of, no_instance, points_at, groups_at, content_at, top_instance}
use Rattle.layout.specs.Reading.{points, all_but_last, pad_left_out, read_by}
use Rattle.layout.specs.Tiling.{lower_points, defined_points}
use Rattle.layout.specs.Paths.{depth_in, agree_to, path_of}
use Rattle.layout.proofs.OnePoint.{one_point_lem}
use Rattle.layout.proofs.LeftOutPad.{each_but_last, left_out}
use Rattle.layout.proofs.Readings.{Full, resolves_left, points_left, read_left, read_full_lem, by_reading}
use Rattle.layout.proofs.ListedPoints.{all_sized}
use Rattle.layout.proofs.Places.{Place}
use Rattle.layout.proofs.PointPlaces.{in_but_last, point_defined, point_inside, point_places}
use Rattle.layout.proofs.Depths.{levels}
use Rattle.layout.proofs.ReadOnlyCounts as counts
use Rattle.writing.specs.Writing.{can_hold}
use Rattle.writing.specs.AfterWriting.{PointAfter}
use Rattle.writing.proofs.OnePointAfter as one
use Rattle.writing.proofs.OnePointAfter.{Write}
use Rattle.writing.proofs.ScopesAfter as after
use Rattle.writing.proofs.PairedWalk.{in_scope, Enters, Deeper, Related, points_paired, content_paired}

-- ---- One model

module _ (d : Definition) (sound : SoundDefinition d) (body : List ℕ) (ps : List ModelPoint)
    (read : read_by d.id d.top body ≡ points ps)
    (w : ModelPoint) (there : In w ps) (raw : ℕ)
    (writable : w.definition.access ≡ read_only → ⊥) (small : w.definition.size ≤ 4)
    (implemented : is_unimplemented_class (point_class w.definition w.raw) ≡ false)
    (holds : can_hold w.definition raw ≡ true) where
  -- The body after the write.
  abbrev new : List ℕ
  new = sets body w.offset (split w.definition.size raw)

  -- The point written is a point of the definition.
  known : In w.definition (defined_points d)
  known = point_defined d sound body ps read w there

  -- What is known of the write.
  write : Write (defined_points d) w raw body
  write =
      record {
        one_point = one_point_lem d sound;
        known = known;
        sized = each_one (λ p. is_size_of p.type_code p.size ≡ true) (defined_points d) (all_sized d sound) w.definition
            known;
        small = small;
        inside = point_inside d sound body ps read w there;
        implemented = implemented;
        holds = holds;
      }

  -- How the scope at each place of the model changes,
  abbrev Scopes : List Point → List ℕ → Scope → Scope → Type 0
  Scopes = one.Scopes d.top w raw body

  -- on entering an instance,
  enters : Enters body new (Place d.top w) Scopes
  enters = after.scope_enters d.top w raw body (defined_points d) write

  -- and at one more instance number.
  deeper : Deeper d.top Scopes
  deeper = after.scope_deeper d.top w raw body (defined_points d) write

  -- How the point at each place changes.
  point : Related (defined_points d) body new (Place d.top w) (PointAfter d.top w raw) Scopes
  point s t path a around visible p = one.point_after_lem d.top w raw body (defined_points d) write s t path a around visible p

  -- A top point is a point of the definition.
  top_known : (p : Point) → In p d.top.points → In p (defined_points d)
  top_known p i = in_append_left p d.top.points (lower_points d.top.groups) i

  -- The body keeps its length.
  same_length : length new ≡ length body
  same_length = length-sets body w.offset (split w.definition.size raw)

  -- If the points qs lie apart from the one written, the new body is read, and each of its points is a point of qs changed so.
  abbrev After : List ModelPoint → Type 0
  After qs =
      Each (Place d.top w) qs
      → (rs : List ModelPoint) × (read_by d.id d.top new ≡ points rs) × Pairwise (PointAfter d.top w raw) qs rs

  -- The points of a model whose last pad is left out.
  left_after : pad_left_out d.id d.top (length body) ≡ true → After (points_left d.id d.top body)
  left_after t places =
      let tops = d.top.points in
      let L = all_but_last tops in
      let S = top_scope L body in
      let S' = top_scope L new in
      let each = each_but_last (SoundPoint tops) tops sound.points in
      let resolve = resolves_left tops L (left_out d.id d.top (length body) t).1
      (each_but_last (ScaleResolves tops) tops (points_resolve tops tops sound.points)) in
      let scopes =
      after.own_becomes d.top w raw body (defined_points d) write no_instance S 0 tops L each places nothing nothing in (
        points_left d.id d.top new,
        read_left d.id d.top new (ap (λ (n : ℕ). pad_left_out d.id d.top n) same_length ∙ t),
        points_paired d.top (defined_points d) body new (Place d.top w) (PointAfter d.top w raw) Scopes enters deeper point
            no_instance 0 tops L L each resolve (λ p i. top_known p (in_but_last p tops i)) S S' scopes places,
      )

  -- A model that is read in full, by the places of its top points.
  module _ (own_places : Each (Place d.top w)
      (points_at body (top_instance d.top.points body) 0 d.top.points)) where
    -- The scope of its top group before the write,
    abbrev old : Scope
    old = top_scope d.top.points body

    -- and after it.
    abbrev now : Scope
    now = top_scope d.top.points new

    -- How the registers of the top points change.
    scopes : Scopes d.top.points no_instance old now
    scopes =
        after.own_becomes d.top w raw body (defined_points d) write no_instance old 0 d.top.points d.top.points
        sound.points own_places nothing nothing

    -- Top points with access R hold the same as before: none of them is written.
    read_only_stay : (p : Point) → In p d.top.points → p.access ≡ read_only → now p.number ≡ old p.number
    read_only_stay p i a =
        let is_written = one.is_written d.top w raw body no_instance p.number in
        scopes p i
        ∙ one.becomes_other d.top w raw body no_instance p.number (old p.number) (fails is_written (λ t.
        let e = (both (eqb p.number w.definition.number)
        (agree_to (depth_in w.definition.number d.top.groups) (path_of w) (levels no_instance)) t).0 in
        let same = one_point_lem d sound p w.definition (top_known p i) known (eqb-true p.number w.definition.number e) in
        absurd (writable (sym (ap (λ (x : Point). x.access) same) ∙ a))))

    -- The new body is read in full again.
    full_again : Full d.top body → Full d.top new
    full_again f =
        record {
          capacity = omega (arith, same_length, f.capacity);
          counted = counts.same_unimplemented d.top sound.groups body new same_length read_only_stay ∙ f.counted;
          fitting = counts.same_fit d.top sound.groups body new same_length read_only_stay ∙ f.fitting;
        }

    -- Its points are the old ones, changed so.
    content_after : Each (Place d.top w)
        (groups_at body (counts_of d.top body) 2 (in_scope old no_instance) (points_size d.top.points) d.top.groups)
        → Pairwise (PointAfter d.top w raw) (content_at d.top body) (content_at d.top new)
    unfolding content_at
    content_after lower_places =
        let tops = d.top.points in
        let R = PointAfter d.top w raw in
        let again =
        counts.same_groups d.top sound.groups body new same_length read_only_stay (in_scope now no_instance)
        (points_size tops) in
        subst (λ qs. Pairwise R (content_at d.top body) (points_at new (in_scope now no_instance) 0 tops ++ qs)) (sym again)
        (content_paired d sound body new (Place d.top w) R Scopes enters deeper point (counts_of d.top body) old now scopes
        own_places lower_places)

  -- The points of a model that is read in full.
  full_after : pad_left_out d.id d.top (length body) ≡ false → Full d.top body → After (content_at d.top body)
  unfolding content_at
  full_after kept f places =
      let S = top_scope d.top.points body in
      let own_points = points_at body (in_scope S no_instance) 0 d.top.points in
      let lower = groups_at body (counts_of d.top body) 2 (in_scope S no_instance) (points_size d.top.points) d.top.groups in
      let parts = each_parts (Place d.top w) own_points lower places in (
        content_at d.top new,
        read_full_lem d.id d.top new (ap (λ (n : ℕ). pad_left_out d.id d.top n) same_length ∙ kept)
            (full_again parts.0 f),
        content_after parts.0 parts.1,
      )

  -- The new body is read, and each of its points is an old one, changed as `PointAfter` says.
  pub model_after : (qs : List ModelPoint)
      × (read_by d.id d.top (sets body w.offset (split w.definition.size raw)) ≡ points qs)
      × Pairwise (PointAfter d.top w raw) ps qs
  model_after =
      by_reading d.id d.top body After left_after full_after ps read (point_places d sound body ps read w there)
