-- A model surveyed by the definition that begins at a frame of an accepted catalog, with a table of the points in scope.
use mathlib.Core.Path.{◌≡◌, refl, sym, ap, subst, ◌∙◌}
use mathlib.Core.Bool.{true, false}
use mathlib.Core.List.{List}
use mathlib.Core.Option.{some}
use Prim.Native.Nat.{ℕ, ◌-◌, ◌≤◌, ◌<◌}
use Rattle.std.specs.Prelude as Std
use Rattle.refusals.specs.declared.Refusal.{Refusal}
use native.Mathlib.Omega.{arith}
use lib.ListN.{length, get_or}
use Rattle.lists.specs.Each.{Each}
use Rattle.model_definitions.specs.Definitions.{Content, definitions, points_size}
use Rattle.model_definitions.specs.Soundness.{SoundPoint, SoundGroups}
use Rattle.layout.specs.Layout.{nothing, top_scope, fits, fill_of, content_at}
use Rattle.layout.specs.Reading.{pad_left_out, read_by, top_of}
use Rattle.layout.specs.PointTables.{scope_in, table_with, present_within}
use Rattle.layout.specs.InternalWalks.{content_from, ParsesAt, Accepted, IsTable, surveyed_refused, surveyed_points, surveyed, Ready, AtGroups}
use Rattle.layout.proofs.FramePosition as position
use Rattle.layout.proofs.AcceptedModels.{accepted_few, top_points_sound, top_groups_sound}
use Rattle.layout.proofs.Sizes.{points_sized}
use Rattle.layout.proofs.GroupDescent.{top_groups}
use Rattle.layout.proofs.ScopeOnly.{Agree, within_own}
use Rattle.layout.proofs.RecordedPoints.{table_with_length, table_with_scope, numbers_in_table, present_all}
use Rattle.layout.proofs.LeftOutPad.{but_one, left_out, no_fill_lem}
use Rattle.listing.specs.InternalCodeTypes.{to_spec_known}
use Rattle.listing.specs.InternalContracts.{RunOf, ExtentOf, fitted_by, KnownReadyBy}
use Rattle.definition_frames.specs.declared.runs.Run.{Run}
use Rattle.listing.specs.declared.extents.Extent.{Extent}
use Rattle.listing.specs.declared.surveys.Survey.{Survey}
use Rattle.listing.proofs.SurveyedModels as models

module _ {ws : List ℕ} (id : ℕ) {first : ℕ} (accepted : Accepted ws) (parses : ParsesAt ws first)
    (known : top_of id (definitions ws) ≡ some (content_from ws first)) where
  abbrev c : Content
  c = content_from ws first

  -- The definition is sound.
  sound_points : Each (SoundPoint c.points) c.points
  sound_points = top_points_sound ws id c accepted known

  sound_groups : SoundGroups c.points c.points 2 c.groups
  sound_groups = top_groups_sound ws id c accepted known

  -- A run has at most 4,096 points, the limit on a catalog's frames.
  pub few_points_lem : {run : Run} → RunOf ws first run → run.points ≤ 4096
  few_points_lem r =
      let n = r.points in
      let w = position.past_end_within ws first parses in
      let f = accepted_few ws accepted in
      omega arith

  -- If a pad is left out, there is a point.
  pub has_point_lem : {run : Run} (len : ℕ) → RunOf ws first run → pad_left_out id c len ≡ true → 1 ≤ run.points
  has_point_lem len r e =
      let n = r.points in
      let b = but_one c.points (left_out id c len e).1 in
      omega (arith, b)

  -- The groups begin after the run.
  pub at_groups : {run : Run} → RunOf ws first run → AtGroups ws run.next 3
  at_groups r = subst (λ i. AtGroups ws i 3) (sym r.next) (top_groups ws id first accepted parses known)

  -- ---- With the table after recording the run

  module _ (body table : List ℕ) {after : List ℕ} (is_table : IsTable table)
      (recording : after ≡ table_with body 0 (present_within (length body) 0 c.points) table) where
    pub still_table : IsTable after
    still_table =
        ap length recording ∙ table_with_length body 0 (present_within (length body) 0 c.points) table ∙ is_table

    -- The definition and the table are ready for writing records.
    ready : (f : ℕ) → f ≡ fill_of c body → Ready ws id body after first f
    ready f e =
        record { known = known; parses = parses; filling = e; is_table = still_table; before = table; table_recorded = recording }

    -- The survey of a model whose pad is left out.
    pub pad_left_out_lem : {run : Run} → RunOf ws first run → pad_left_out id c (length body) ≡ true
        → (surveyed_points (run.points - 1) ≡ surveyed (read_by id c body)) × (Ready ws id body after first 0 × IsTable after)
    pad_left_out_lem r e =
        let n = no_fill_lem c body (left_out id c (length body) e).0 in
        (ap (λ k. surveyed_points (k - 1)) r.points ∙ models.pad_surveyed id c body e, (ready 0 (sym n), still_table))

    module _ (words : (k : ℕ) → get_or ws k 0 < 65536) (short : length body ≤ 65535)
        (kept : pad_left_out id c (length body) ≡ false) (long : points_size c.points ≤ length body) where
      -- The table and the top group's scope agree on its points.
      agrees : Agree c.points (scope_in after) (top_scope c.points body)
      agrees p i =
          let all = present_all (length body) 0 c.points (points_sized c.points c.points sound_points) (omega arith) in
          let there : after ≡ table_with body 0 c.points table = recording ∙ ap (λ ps. table_with body 0 ps table) all in
          let scope = table_with_scope body 0 c.points table is_table (numbers_in_table ws words first parses) in
          ap (λ t. scope_in t p.number) there
          ∙ ap (λ s. s p.number) scope
          ∙ within_own body 0 c.points (scope_in table) nothing p i

      module _ {run : Run} (r : RunOf ws first run) {groups : Extent}
          (x : ExtentOf (scope_in after) (content_from ws run.next).groups groups) where
        -- The extent that the code computes is the definition's.
        extent : ExtentOf (top_scope c.points body) c.groups groups
        extent =
            let here : (content_from ws run.next).groups ≡ c.groups =
            ap (λ i. (content_from ws i).groups) r.next ∙ (position.after_run ws first parses).1 in
            models.extent_agrees (scope_in after) (top_scope c.points body) c.points c.points 2 c.groups groups agrees
            sound_groups (subst (λ g. ExtentOf (scope_in after) g groups) here x)

        -- 28, if a count point is unimplemented.
        pub unimplemented : groups.unimplemented ≡ true → surveyed_refused 28 ≡ surveyed (read_by id c body)
        unimplemented u = models.unimplemented_surveyed id c body kept long (sym extent.unimplemented ∙ u)

        -- Otherwise 29 or the number of points.
        pub surveyed_here : groups.unimplemented ≡ false → {s : Std.Result Survey Refusal} → s ≡ fitted_by first run groups (length body)
            → (to_spec_known s ≡ surveyed (read_by id c body)) × (KnownReadyBy ws id body after s × IsTable after)
        surveyed_here u {s} q =
            let d = q ∙ models.fitted_by_definition first run groups c body short sound_groups r.size r.points extent in (
              models.fits_surveyed id c body kept long s first (sym extent.unimplemented ∙ u) d,
              (
                models.ready_by ws id body after first (length (content_at c body)) (fill_of c body) (fits c body) s d
                    (ready (fill_of c body) refl),
                still_table,
              ),
            )
