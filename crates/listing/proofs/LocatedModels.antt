-- Locating a point in a model by its definition gives the first of its points with the number and the path.
use mathlib.Core.Path.{◌≡◌, refl, sym, ap, subst, ◌∙◌}
use mathlib.Core.Bool.{Bool, true}
use mathlib.Core.List.{List}
use mathlib.Core.Option.{Option, none, some}
use Prim.Native.Nat.{ℕ, ◌+◌, ◌≤◌, ◌<◌}
use native.Mathlib.Omega.{arith}
use lib.ListN.{length, get_or}
use Rattle.lists.specs.Members.{In}
use Rattle.lists.specs.Tests.{first_with}
use Rattle.lists.proofs.TestOutcomes.{clash}
use Rattle.lists.proofs.FirstFound.{not_none, found_in}
use Rattle.catalog_frames.specs.Frames.{Point, Head}
use Rattle.model_definitions.specs.Definitions.{Groups, no_group, group, Content, points_size}
use Rattle.layout.specs.Layout.{count_of, measured, groups_size, counts_of, no_instance, top_instance}
use Rattle.layout.specs.Points.{ModelPoint}
use Rattle.layout.specs.Paths.{is_point}
use Rattle.layout.specs.Reading.{Reading, unknown, faulty, points, all_but_last, read_by, has_no_group}
use Rattle.layout.specs.PointTables.{scope_in}
use Rattle.layout.specs.InternalWalks.{content_from, Accepted, instance_in, points_of, HasPoints, Ready}
use Rattle.layout.specs.Locating.{Located, location_of, first_location, or_else, located_own, located_in}
use Rattle.layout.proofs.Readings.{HowRead, reading_left_out, full}
use Rattle.layout.proofs.FramePosition as position
use Rattle.layout.proofs.AcceptedModels as models
use Rattle.layout.proofs.PointAddresses.{Reads}
use Rattle.layout.proofs.PointPlaces.{point_reads, point_inside}
use Rattle.layout.proofs.GroupDescent.{top_groups}
use Rattle.layout.proofs.LeftOutPad as pads
use Rattle.layout.proofs.LocatingSteps.{no_sibling}
use Rattle.layout.proofs.LocatedPoints.{or_none, top_found, groups_found, content_found}
use Rattle.listing.specs.Finding.{nothing_result, found_result}
use Rattle.listing.specs.InternalContracts.{ModelAsks, located_within, target_at, result_at}
use Rattle.listing.proofs.ReadyModels as model

-- A reading that has points is `points` of them.
with_points_lem : (r : Reading) → HasPoints r → r ≡ points (points_of r)
with_points_lem unknown h = absurd h
with_points_lem (faulty fault) h = absurd h
with_points_lem (points ps) h = refl

-- Groups that pass the test for no group are none.
no_group_lem : (g : Groups) → has_no_group g ≡ true → g ≡ no_group
no_group_lem no_group e = refl
no_group_lem (group h ps inside next) e = clash (sym e)

module _ {ws : List ℕ} {id : ℕ} {body table : List ℕ} {first fill : ℕ} (accepted : Accepted ws)
    (ready : Ready ws id body table first fill) (words : (k : ℕ) → get_or ws k 0 < 65536)
    (has : HasPoints (model.read accepted ready words)) (short : length body ≤ 65535) where
  abbrev top : Content
  top = content_from ws first

  abbrev ps : List Point
  ps = top.points

  abbrev present : List Point
  present = model.present accepted ready words

  abbrev count : Head → ℕ
  count = count_of (scope_in table) fill

  -- The top points and the groups end at offset 65536 or before.
  within_bound : points_size ps + groups_size count top.groups ≤ 65536
  unfolding measured
  within_bound = go (model.how accepted ready words has)
    where
      go : {r : Reading} → HowRead id top body r → points_size ps + groups_size count top.groups ≤ 65536
      go (reading_left_out e) =
          let l = pads.left_out id top (length body) e in
          omega (arith, l.2, ap (groups_size count) (no_group_lem top.groups l.0), short)
      go (full kept f) = omega (arith, model.lower_same accepted ready words f points_size, model.in_full accepted ready words f, short)

  -- The requirements of locating hold.
  pub model_asks : ModelAsks ws table (length body) first fill
  model_asks =
      let there = position.after_run ws first ready.parses in
      record {
        parses = ready.parses;
        short = short;
        groups = record {
          position = top_groups ws id first accepted ready.parses ready.known;
          at_most3 = omega arith;
          inside = omega (arith, ap (groups_size count) there.1, within_bound);
        };
      }

  -- Its result is the first of the model's points with the number and the path.
  pub model_located : (number : ℕ) (path : List ℕ) → length path ≡ 3
      → located_within count number path (length body) top
      ≡ first_location number path (points_of (model.read accepted ready words))
  model_located number path long =
      go (model.how accepted ready words has)
      ∙ ap (λ r. first_location number path (points_of r)) (sym (model.read_here accepted ready words))
    where
      go : {r : Reading} → HowRead id top body r
          → located_within count number path (length body) top ≡ first_location number path (points_of r)
      go (reading_left_out h) =
          let l = pads.left_out id top (length body) h in
          let b = pads.present_but_pad ps id top (length body) (model.sound_points accepted ready words) h in
          ap (λ g. or_else (located_own number path 1 0 present) (located_in count number path 2 (points_size ps) g))
          (no_group_lem top.groups l.0)
          ∙ ap (or_else (located_own number path 1 0 present)) (no_sibling count number path 2 (points_size ps))
          ∙ or_none (located_own number path 1 0 present)
          ∙ ap (located_own number path 1 0) b
          ∙ sym (top_found number path long body (top_instance (all_but_last ps) body) 0 (all_but_last ps) refl)
      go (full kept f) =
          let own = located_own number path 1 0 in
          let sound = model.sound_groups accepted ready words in
          let lower : located_in count number path 2 (points_size ps) top.groups
          ≡ located_in (counts_of top body) number path 2 (points_size ps) top.groups =
          sym (groups_found number path long body count ps ps top.groups (instance_in table no_instance) (points_size ps) refl sound)
          ∙ ap (first_location number path) (model.same_groups accepted ready words f (points_size ps))
          ∙ groups_found number path long body (counts_of top body) ps ps top.groups (top_instance ps body) (points_size ps) refl
          sound in
          ap (λ qs. or_else (own qs) (located_in count number path 2 (points_size ps) top.groups)) (model.all_present accepted ready words f)
          ∙ ap (or_else (own ps)) lower
          ∙ sym (content_found number path long top body ps ps sound)

  -- ---- What a search in the model returns

  abbrev all : List ModelPoint
  all = points_of (model.read accepted ready words)

  -- Each of its points has the raw value of its registers, and begins in the body or at its end.
  point_there : (p : ModelPoint) → In p all → Reads body p × (p.offset ≤ length body)
  point_there p i =
      let d = models.top_sound ws id top accepted ready.known in
      let r : read_by d.0.id d.0.top body ≡ points all =
      ap (λ n. read_by n d.0.top body) d.2 ∙ ap (λ c. read_by id c body) d.3
      ∙ sym (model.read_here accepted ready words)
      ∙ with_points_lem (model.read accepted ready words) has in (
        point_reads d.0 d.1 body all r p i,
        omega (arith, point_inside d.0 d.1 body all r p i),
      )

  module _ (number : ℕ) (path : List ℕ) (long : length path ≡ 3) where
    abbrev it : ModelPoint → Bool
    it = is_point number path

    -- If no point is located, no point is found.
    pub none_found : (at : ℕ) → located_within count number path (length body) top ≡ none → nothing_result ≡ result_at at (first_with it all)
    none_found at e = go (first_with it all) (sym (model_located number path long) ∙ e)
      where
        go : (o : Option ModelPoint) → ◌≡◌ {A = Option Located} (elim o [ none ↦ none | some p ↦ some (location_of p) ]) none
            → nothing_result ≡ result_at at o
        go none q = refl
        go (some p) q = not_none (sym q)

    -- The point that is located is the one that is found.
    pub one_found : (at : ℕ) {l : Located} → located_within count number path (length body) top ≡ some l
        → (l.offset ≤ length body) × (found_result (target_at at body l) ≡ result_at at (first_with it all))
    one_found at {l} e = go (first_with it all) refl (sym (model_located number path long) ∙ e)
      where
        go : (o : Option ModelPoint) → first_with it all ≡ o → elim o [ none ↦ none | some p ↦ some (location_of p) ] ≡ some l
            → (l.offset ≤ length body) × (found_result (target_at at body l) ≡ result_at at o)
        go none q f = not_none f
        go (some p) q f =
            let same : location_of p ≡ l = cc in
            let there = point_there p (found_in it all p q).0 in (
              subst (λ x. x.offset ≤ length body) same there.1,
              ap (λ x. found_result (target_at at body x)) (sym same)
                  ∙ ap (λ r. found_result (record { address = at + 2 + p.offset; definition = p.definition; raw = r })) (sym there.0),
            )
