-- Writing the points of an instance, one by one.
use mathlib.Core.Path.{◌≡◌, refl, sym, ap, subst, ◌∙◌}
use mathlib.Core.Bool.{true}
use mathlib.Core.List.{List, [], ◌∷◌}
use mathlib.Core.Option.{Option, none, some}
use Prim.Native.Nat.{ℕ, ◌+◌, ◌*◌, ◌/◌, ◌≤◌, ◌<◌}
use native.Mathlib.Omega.{arith}
use lib.ListN.{length, get_or}
use Rattle.lists.specs.Each.{Each}
use Rattle.lists.proofs.TestOutcomes.{impossible}
use Rattle.registers.specs.Registers.{join}
use Rattle.catalog_frames.specs.Frames.{Point, frame_in}
use Rattle.frame_rules.specs.FrameTests.{is_size_of}
use Rattle.catalog.specs.Rules.{run}
use Rattle.model_definitions.specs.Definitions.{points_size}
use Rattle.layout.specs.Points.{ModelPoint, point_class, registers_at, point_at}
use Rattle.layout.specs.Layout.{points_at}
use Rattle.layout.specs.FrameWalk.{onward, point_of}
use Rattle.layout.specs.PointTables.{scope_in, present_within}
use Rattle.layout.specs.InternalWalks.{content_from, instance_in}
use Rattle.shown_points.specs.CodeTypes.{PointShown, to_spec_status, to_spec_shown, shown_by}
use Rattle.shown_points.specs.declared.Shown.{Shown}
use Rattle.layout.proofs.FramePosition as position
use Rattle.layout.proofs.FrameRuns.{run_more, run_ends}
use Rattle.layout.proofs.RecordedPoints.{present_past, present_first}
use Rattle.listing.specs.Listing.{record_numbers, record_width}
use Rattle.listing.specs.InternalContracts.{record_at, written, PointFits, RunAsks, AfterRun}
use Rattle.listing.specs.declared.records.Visit.{Visit}
use Rattle.listing.specs.declared.records.Progress.{Progress}
use Rattle.listing.proofs.WrittenRecords.{written_none, written_length, written_append}

-- The first point of a run is that of its first frame, and the others begin at the next frame.
run_first : (ws : List ℕ) (i : ℕ) (p : Point) (ps : List Point) → run (onward ws i) ≡ p ∷ ps
    → (point_of (frame_in ws i) ≡ some p) × (ps ≡ run (onward ws (i + 1)))
run_first ws i p ps e = go (point_of (frame_in ws i)) refl
  where
    go : (o : Option Point) → point_of (frame_in ws i) ≡ o → (point_of (frame_in ws i) ≡ some p) × (ps ≡ run (onward ws (i + 1)))
    go none x = let no_run = run_ends ws i x in impossible (cc)
    go (some q) x = let more = run_more ws i q x in let same = more.1 in (cc, cc)

-- Where a run has no point, its first frame is no point frame.
run_empty : (ws : List ℕ) (i : ℕ) → run (onward ws i) ≡ [] → point_of (frame_in ws i) ≡ none
run_empty ws i e = go (point_of (frame_in ws i)) refl
  where
    go : (o : Option Point) → point_of (frame_in ws i) ≡ o → point_of (frame_in ws i) ≡ none
    go none x = x
    go (some q) x = let more = run_more ws i q x in let same = more.1 in impossible (cc)

-- The ten numbers that the code computes from a shown point are those of its record.
pub shown_numbers : (visit : Visit) (body table path : List ℕ) (offset address : ℕ) (p : Point) (shown : Shown) (status : ℕ)
    → address ≡ visit.address + 2 + offset
    → status ≡ to_spec_status shown.status
    → to_spec_shown shown ≡ shown_by p (point_class p (join (registers_at body offset p))) (registers_at body offset p)
    (scope_in table p.scale)
    → visit.index ∷ visit.id ∷ p.number ∷ get_or path 0 0 ∷ get_or path 1 0 ∷ get_or path 2 0 ∷ address
    ∷ status ∷ shown.raw ∷ shown.scale ∷ []
    ≡ record_numbers (record_at visit (point_at body (instance_in table path) offset p))
unfolding record_numbers point_at
shown_numbers visit body table path offset address p shown status at numbered s =
    let by_shown = numbered ∙ ap (λ (x : PointShown). x.status) s in
    let raw = ap (λ (x : PointShown). x.raw) s in
    let scale = ap (λ (x : PointShown). x.scale) s in
    rw (at, by_shown, raw, scale)

-- The points that remain to be written.
abbrev pub left_at : List ℕ → List ℕ → Progress → List Point
left_at ws body at = present_within (length body) at.offset (content_from ws at.frame).points

-- The same points as listing shows them.
abbrev pub shown_at : List ℕ → List ℕ → List ℕ → List ℕ → Progress → List ModelPoint
shown_at ws body table path at = points_at body (instance_in table path) at.offset (left_at ws body at)

-- Writing the remaining points `ps` gives what writing all of them gives.
pub record StillWrites (ws body table : List ℕ) (visit : Visit) (path : List ℕ) (out₀ : List ℕ) (at₀ : Progress) (out : List ℕ)
    (at : Progress) (ps : List Point) : Type 0 where
  pub given : ps ≡ run (onward ws at.frame)
  pub asks : RunAsks ws body out at (left_at ws body at)
  pub holds : written visit at.records (shown_at ws body table path at) out
      ≡ written visit at₀.records (shown_at ws body table path at₀) out₀
  pub following : AfterRun at₀ (left_at ws body at₀) (record {
    records = at.records + length (left_at ws body at);
    offset = at.offset + points_size (left_at ws body at);
    frame = at.frame + length (left_at ws body at);
  })
  pub same : length out ≡ length out₀

-- The progress after one more point.
abbrev pub past_point : Progress → Point → Progress
past_point at p = record { records = at.records + 1; offset = at.offset + p.size; frame = at.frame + 1 }

-- At the start all points remain.
pub still_all : (ws body table : List ℕ) (visit : Visit) (path out : List ℕ) (at : Progress) (ps : List Point)
    → ps ≡ run (onward ws at.frame) → RunAsks ws body out at (left_at ws body at)
    → StillWrites ws body table visit path out at out at ps
still_all ws body table visit path out at ps e a =
    record { given = e; asks = a; holds = refl; following = record { records = refl; offset = refl; frame = refl }; same = refl }

module _ {ws body table : List ℕ} {visit : Visit} {path out₀ : List ℕ} {at₀ : Progress} {out : List ℕ} {at : Progress}
    {left : List Point} (s : StillWrites ws body table visit path out₀ at₀ out at left) where
  -- The frame is one of the catalog's.
  pub still_within : at.frame < length ws / 8
  still_within = position.parses_within ws at.frame s.asks.parses

  -- No point remains: the list is the one that the contract requires.
  still_none : left_at ws body at ≡ []
      → AfterRun at₀ (left_at ws body at₀) at × (out ≡ written visit at₀.records (shown_at ws body table path at₀) out₀)
  unfolding points_at
  still_none e =
      let b = s.following in
      let n = ap length e in
      let z = ap points_size e in
      let shown : shown_at ws body table path at ≡ [] =
      ap (λ (ps : List Point). points_at body (instance_in table path) at.offset ps) e in (
        record {
          records = omega (arith, b.records, n);
          offset = omega (arith, b.offset, z);
          frame = omega (arith, b.frame, n);
        },
        sym (ap (λ (ps : List ModelPoint). written visit at.records ps out) shown ∙ written_none visit at.records out)
            ∙ s.holds,
      )

  -- No point remains at the end of the body, or where the run ends.
  pub still_past : length body ≤ at.offset
      → AfterRun at₀ (left_at ws body at₀) at × (out ≡ written visit at₀.records (shown_at ws body table path at₀) out₀)
  still_past h = still_none (present_past (length body) at.offset (content_from ws at.frame).points h)

  pub still_other : left ≡ []
      → AfterRun at₀ (left_at ws body at₀) at × (out ≡ written visit at₀.records (shown_at ws body table path at₀) out₀)
  unfolding present_within
  still_other f =
      let e = position.no_point_lem ws at.frame s.asks.parses (run_empty ws at.frame (sym s.given ∙ f)) in
      still_none (ap (λ (ps : List Point). present_within (length body) at.offset ps) e)

  module _ (p : Point) (others : List Point) (h : at.offset < length body) (more : left ≡ p ∷ others) where
    -- It is the point of the frame.
    f : point_of (frame_in ws at.frame) ≡ some p
    f = (run_first ws at.frame p others (sym s.given ∙ more)).0

    -- The first of the remaining points, and the others.
    first_left : left_at ws body at ≡ p ∷ left_at ws body (past_point at p)
    first_left =
        let next = position.point_next ws at.frame s.asks.parses p f in
        ap (λ (ps : List Point). present_within (length body) at.offset ps) next.0
        ∙ present_first (length body) at.offset p (content_from ws (at.frame + 1)).points h

    -- It is inside the body, and the list has capacity for its record.
    pub first_fits : PointFits body at.offset p
        × (record_width * (at.records + 1) ≤ length out)
    first_fits =
        let next = position.point_next ws at.frame s.asks.parses p f in
        let sized = subst (Each (λ q. is_size_of q.type_code q.size ≡ true)) next.0 s.asks.sized in
        let n = ap length first_left in
        let z = ap points_size first_left in (
          record {
            sized = sized.0;
            inside = omega (arith, s.asks.inside, z);
          },
          omega (arith, s.asks.capacity, n),
        )

    -- After its record is written, the others remain.
    pub still_first : (out' : List ℕ)
        → out' ≡ written visit at.records (point_at body (instance_in table path) at.offset p ∷ []) out
        → StillWrites ws body table visit path out₀ at₀ out' (past_point at p) others
    unfolding points_at
    still_first out' e =
        let a = s.asks in
        let b = s.following in
        let next = position.point_next ws at.frame a.parses p f in
        let sized = subst (Each (λ q. is_size_of q.type_code q.size ≡ true)) next.0 a.sized in
        let n = ap length first_left in
        let z = ap points_size first_left in
        let at' = past_point at p in
        let x = point_at body (instance_in table path) at.offset p in
        let xs = shown_at ws body table path at' in
        let k = at.records in
        let shown : shown_at ws body table path at ≡ x ∷ xs =
        ap (λ (ps : List Point). points_at body (instance_in table path) at.offset ps) first_left in
        let same : length out' ≡ length out = ap length e ∙ written_length visit k (x ∷ []) out in
        record {
          given = (run_first ws at.frame p others (sym s.given ∙ more)).1;
          asks = record {
            parses = next.2;
            sized = sized.1;
            inside = omega (arith, a.inside, z);
            capacity = omega (arith, a.capacity, n, same);
          };
          holds = sym (ap (λ (ps : List ModelPoint). written visit k ps out) shown
              ∙ written_append visit k (x ∷ []) xs out
              ∙ ap (λ (o : List ℕ). written visit (k + 1) xs o) (sym e))
              ∙ s.holds;
          following = record {
            records = omega (arith, b.records, n);
            offset = omega (arith, b.offset, z);
            frame = omega (arith, b.frame, n);
          };
          same = same ∙ s.same;
        }
