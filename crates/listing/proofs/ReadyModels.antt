-- A model whose definition is found and whose top points are in the table: how it is read, and the scope that the table holds.
use mathlib.Core.Path.{◌≡◌, refl, sym, ap, subst, ◌∙◌}
use mathlib.Core.Bool.{Bool, true, false}
use mathlib.Core.List.{List, [], ◌∷◌, ◌++◌}
use mathlib.Core.Option.{Option, none, some}
use Prim.Native.Nat.{ℕ, ◌+◌, ◌-◌, ◌/◌, ◌≤◌, ◌<◌}
use native.Mathlib.Nat.{div-le_self}
use native.Mathlib.Omega.{arith}
use lib.Dec.{ltb}
use lib.ListN.{length, get_or}
use Rattle.lists.specs.Each.{Each}
use Rattle.catalog_frames.specs.Frames.{Point}
use Rattle.model_definitions.specs.Definitions.{Content, points_size, definitions}
use Rattle.model_definitions.specs.Soundness.{SoundPoint, SoundGroups, ScaleResolves}
use Rattle.model_definitions.proofs.References.{points_resolve}
use Rattle.layout.specs.Points.{ModelPoint, Scope}
use Rattle.layout.specs.Layout.{nothing, within, top_scope, count_of, measured, groups_size, fill_size_of, fill_of, counts_of, points_at, entered, groups_at, no_instance, top_instance, content_at, rest_size}
use Rattle.layout.specs.Reading.{Reading, read_by, reading}
use Rattle.layout.specs.PointTables.{scope_in, present_within}
use Rattle.layout.specs.InternalWalks.{content_from, Accepted, instance_in, IsTable, HasPoints, Ready}
use Rattle.layout.proofs.Readings.{Full, HowRead, how_read}
use Rattle.layout.proofs.AcceptedModels as models
use Rattle.layout.proofs.CountsAgree as counts
use Rattle.layout.proofs.ScopeOnly.{Agree, within_own, points_agree, groups_agree}
use Rattle.layout.proofs.PointCounts as point_counts
use Rattle.layout.proofs.RecordedPoints as recorded
use Rattle.layout.proofs.Sizes.{full_size, points_sized}

-- The points of a model read in full: the top points, then the groups.
pub content_parts : (c : Content) (body : List ℕ) → content_at c body
    ≡ points_at body (top_instance c.points body) 0 c.points
    ++ groups_at body (counts_of c body) 2 (top_instance c.points body) (points_size c.points) c.groups
unfolding content_at
content_parts c body = refl

-- The count of the fill group is at most the length.
pub fill_few : (c : Content) (body : List ℕ) → fill_of c body ≤ length body
unfolding fill_of
fill_few c body = go (fill_size_of c body)
  where
    go : (o : Option ℕ) → elim o [ none ↦ 0 | some size ↦ (length body - rest_size c body) / size ] ≤ length body
    go none = omega arith
    go (some size) = let d = div-le_self (length body - rest_size c body) size in omega arith

-- So it is at most that of a body.
pub few_instances : {ws : List ℕ} {id : ℕ} {body table : List ℕ} {first fill : ℕ} → Ready ws id body table first fill
    → length body ≤ 65535 → fill ≤ 65535
few_instances {ws} {id} {body} {table} {first} ready short =
    omega (arith, ready.filling, fill_few (content_from ws first) body, short)

each_present : (P : Point → Type 0) (len offset : ℕ) (ps : List Point) → Each P ps → Each P (present_within len offset ps)
unfolding present_within
each_present P len offset [] e = tt
each_present P len offset (p ∷ ps) e = go (ltb offset len) (each_present P len (offset + p.size) ps e.1)
  where
    go : (b : Bool) → Each P (present_within len (offset + p.size) ps)
        → Each P (elim b [ true ↦ p ∷ present_within len (offset + p.size) ps | false ↦ [] ])
    go true r = (e.0, r)
    go false r = tt

-- ---- The model at a frame

module _ {ws : List ℕ} {id : ℕ} {body table : List ℕ} {first fill : ℕ} (accepted : Accepted ws)
    (ready : Ready ws id body table first fill) (words : (k : ℕ) → get_or ws k 0 < 65536) where
  abbrev pub top : Content
  top = content_from ws first

  abbrev pub ps : List Point
  ps = top.points

  abbrev pub present : List Point
  present = present_within (length body) 0 ps

  abbrev pub read : Reading
  read = reading (definitions ws) (record { id = id; body = body })

  -- It is read by the definition at the frame.
  pub read_here : read ≡ read_by id top body
  read_here = models.read_known (definitions ws) id body top ready.known

  pub sound_points : Each (SoundPoint ps) ps
  sound_points = models.top_points_sound ws id top accepted ready.known

  pub sound_groups : SoundGroups ps ps 2 top.groups
  sound_groups = models.top_groups_sound ws id top accepted ready.known

  -- The table holds the scope of the top points that are present.
  table_scope : scope_in table ≡ within body 0 present (scope_in ready.before)
  table_scope =
      ap scope_in ready.table_recorded
      ∙ recorded.table_with_scope body 0 present ready.before (before_long)
      (each_present (λ p. p.number < 65536) (length body) 0 ps (recorded.numbers_in_table ws words first ready.parses))
    where
      before_long : IsTable ready.before
      before_long =
          sym (recorded.table_with_length body 0 (present_within (length body) 0 (content_from ws first).points) ready.before)
          ∙ sym (ap length ready.table_recorded) ∙ ready.is_table

  -- It is read in full or without its last pad.
  pub how : HasPoints read → HowRead id top body (read_by id top body)
  how has = how_read id top body (subst HasPoints read_here has)

  -- ---- The top points

  module _ (qs : List Point) (e : present ≡ qs) where
    -- The table and the model's scope agree on these points.
    agree_present : Agree qs (scope_in table) (top_scope qs body)
    agree_present p i =
        ap (λ (s : Scope). s p.number) (table_scope ∙ ap (λ rs. within body 0 rs (scope_in ready.before)) e)
        ∙ within_own body 0 qs (scope_in ready.before) nothing p i

    pub same_points : Each (ScaleResolves qs) qs
        → points_at body (instance_in table no_instance) 0 present ≡ points_at body (top_instance qs body) 0 qs
    same_points r =
        ap (points_at body (instance_in table no_instance) 0) e
        ∙ points_agree body 0 qs qs (instance_in table no_instance) (top_instance qs body) r
        (record { same_path = refl; agree = agree_present })

  -- In a model read in full all top points are present.
  pub all_present : Full top body → present ≡ ps
  all_present f = recorded.present_all (length body) 0 ps (points_sized ps ps sound_points) (omega (arith, f.capacity))

  pub resolved : Each (ScaleResolves ps) ps
  resolved = points_resolve ps ps sound_points

  -- In a model read in full, the table gives the definition's counts.
  module _ (f : Full top body) where
    agree_top : Agree ps (scope_in table) (top_scope ps body)
    agree_top = agree_present ps (all_present f)

    pub lower_same : (weight : List Point → ℕ)
        → measured weight (count_of (scope_in table) fill) top.groups ≡ measured weight (counts_of top body) top.groups
    lower_same weight =
        counts.measures_agree (scope_in table) (top_scope ps body) ps agree_top weight fill ps 2 top.groups sound_groups
        ∙ ap (λ n. measured weight (count_of (top_scope ps body) n) top.groups) ready.filling

    pub in_full : points_size ps + groups_size (counts_of top body) top.groups ≡ length body
    in_full = full_size ps ps top body sound_groups f.fitting

    pub same_groups : (offset : ℕ) → groups_at body (count_of (scope_in table) fill) 2 (instance_in table no_instance) offset top.groups
        ≡ groups_at body (counts_of top body) 2 (top_instance ps body) offset top.groups
    same_groups offset =
        groups_agree body fill ps (scope_in table) (top_scope ps body) agree_top offset ps 2 top.groups sound_groups
        (instance_in table no_instance) (top_instance ps body) (record { same_path = refl; agree = agree_top })
        ∙ ap (λ n. groups_at body (count_of (top_scope ps body) n) 2 (top_instance ps body) offset top.groups) ready.filling

    -- If the top points fill the body, the groups have no points.
    pub no_lower : points_size ps ≡ length body
        → groups_at body (counts_of top body) 2 (top_instance ps body) (points_size ps) top.groups ≡ []
    no_lower e =
        let g = point_counts.groups_fit (counts_of top body) ps ps 2 top.groups sound_groups in
        let n = point_counts.groups_counted (entered body) body (counts_of top body) 2 (top_instance ps body) (points_size ps)
        top.groups in
        none_left (groups_at body (counts_of top body) 2 (top_instance ps body) (points_size ps) top.groups)
        (omega (arith, g, n, in_full, e))
      where
        none_left : (xs : List ModelPoint) → length xs ≡ 0 → xs ≡ []
        none_left [] h = refl
        none_left (x ∷ xs) h = absurd (omega arith)
