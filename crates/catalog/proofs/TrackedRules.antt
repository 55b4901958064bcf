-- The rules as the code tests them find the same fault as the rules of the definition.
use mathlib.Core.Path.{◌≡◌, refl, sym, ap, subst, ◌∙◌}
use mathlib.Core.Bool.{Bool, true, false, not, ◌||◌}
use mathlib.Core.List.{List, [], ◌∷◌, append-nil}
use mathlib.Core.Option.{Option}
use Prim.Native.Nat.{ℕ, suc, ◌-◌, ◌<◌}
use native.Mathlib.Omega.{arith}
use borrow.Author.Tests.{eq-eqb, ne_eqb}
use lib.Dec.{eqb}
use lib.ListN.{length}
use Rattle.lists.specs.Members.{among}
use Rattle.lists.specs.Tests.{one_holds, first_broken}
use Rattle.number_sets.specs.NumberSets.{in_set}
use Rattle.catalog_frames.specs.Frames.{Point, Head, Frame, model_frame, group_frame, point_frame, end_frame, malformed}
use Rattle.catalog.specs.State as check
use Rattle.catalog.specs.State.{OpenGroup}
use Rattle.frame_rules.specs.FrameTests.{has_bad_type}
use Rattle.catalog.specs.Rules.{run, points_in_scope, no_model, has_bad_place, has_bad_number, has_bad_scale, scale_faults}
use Rattle.catalog.specs.Rules.{fault}
use Rattle.catalog.specs.InternalTracking.{IdFits}
use Rattle.catalog.specs.InternalScans.{frames_onward, runs_of}
use Rattle.catalog.specs.InternalTracking.{Tracks, Opens, upcoming_run_at, code_rules, numbers_so_far}
use Rattle.catalog.specs.declared.state.State.{State}
use Rattle.catalog.proofs.OpenGroups.{runs_in_scope, run_of_top}

-- Depth 0 means that no model is open, depth 1 that the top group is the innermost open one.
pub none_open : (d : ℕ) (ls : List OpenGroup) → d ≡ length ls → eqb d 0 ≡ no_model ls
none_open d [] e = eq-eqb d 0 e
none_open d (l ∷ ls) e = ne_eqb d 0 (λ z. omega (arith, e, z))

one_open : (d : ℕ) (ls : List OpenGroup) → d ≡ suc (length ls) → eqb d 1 ≡ no_model ls
one_open d [] e = eq-eqb d 1 e
one_open d (l ∷ ls) e = ne_eqb d 1 (λ z. omega (arith, e, z))

-- The fault of a model frame, given the results of its tests.
abbrev model_fault : Bool → Bool → Option ℕ
model_fault placed numbered = first_broken ((placed, 4) ∷ (numbered, 6) ∷ [])

-- The fault of a point frame, given the results of its tests. Equal results give the same fault.
abbrev point_fault : Bool → Bool → Bool → Bool → Option ℕ
point_fault placed numbered typed scaled = first_broken ((placed, 4) ∷ (numbered, 6) ∷ (typed, 7) ∷ (scaled, 8) ∷ [])

same_tests : (a b d e m x y : Bool) → a ≡ b → d ≡ e → x ≡ y → point_fault a d m x ≡ point_fault b e m y
same_tests a b d e m x y p q r =
    ap (λ t. point_fault t d m x) p ∙ ap (λ t. point_fault b t m x) q ∙ ap (λ t. point_fault b e m t) r

-- At a frame that is not a point frame no point is upcoming.
nothing_upcoming : (ws : List ℕ) (i : ℕ) (b : Bool) → run (frames_onward ws i) ≡ [] → upcoming_run_at ws i b ≡ []
nothing_upcoming ws i true e = refl
nothing_upcoming ws i false e = e

module _ (ws used : List ℕ) (i : ℕ) (c : State) (s : check.State) (t : Tracks ws used i c s) where
  -- So the runs of the open groups are their points so far.
  pub no_upcoming_point : run (frames_onward ws i) ≡ [] → Opens ws c.firsts c.has_group [] s.open_groups
  no_upcoming_point e =
      let none_left = nothing_upcoming ws i c.has_group e in
      subst (λ (ps : List Point). Opens ws c.firsts c.has_group ps s.open_groups) none_left t.open_groups

  -- The same fault, kind by kind.
  model_fault_lem : (id : ℕ) (upcoming_run : List Point) → id < 65536
      → first_broken (code_rules ws used i c (model_frame id)) ≡ fault s (model_frame id) upcoming_run
  model_fault_lem id upcoming_run h =
      let placed : not (eqb c.depth 0) ≡ has_bad_place s (model_frame id) =
      ap not (none_open c.depth s.open_groups t.depth) in
      let numbered : eqb id 0 || eqb id 65535 || in_set used id ≡ has_bad_number s (model_frame id) =
      ap (λ (b : Bool). eqb id 0 || eqb id 65535 || b) (t.ids id h) in
      ap (λ (b : Bool). model_fault b (eqb id 0 || eqb id 65535 || in_set used id)) placed
      ∙ ap (model_fault (has_bad_place s (model_frame id))) numbered

  group_fault : (h : Head) (upcoming_run : List Point) → run (frames_onward ws i) ≡ []
      → first_broken (code_rules ws used i c (group_frame h)) ≡ fault s (group_frame h) upcoming_run
  group_fault h upcoming_run e = go s.open_groups refl
    where
      go : (ls : List OpenGroup) → s.open_groups ≡ ls
          → first_broken (code_rules ws used i c (group_frame h)) ≡ fault s (group_frame h) upcoming_run
      go [] q = rw (none_open c.depth [] (t.depth ∙ ap length q), q)
      go (l ∷ ls) q =
          let d : c.depth ≡ suc (length ls) = t.depth ∙ ap length q in
          let o = subst (Opens ws c.firsts c.has_group []) q (no_upcoming_point e) in
          rw (
            none_open c.depth (l ∷ ls) d,
            one_open c.depth ls d,
            t.has_fill,
            ← t.numbers (omega (arith, d)),
            run_of_top ws c.firsts c.has_group l ls o,
            t.depth,
            q,
          )

  point_fault_lem : (p : Point)
      → first_broken (code_rules ws used i c (point_frame p)) ≡ fault s (point_frame p) (run (frames_onward ws i))
  point_fault_lem p = go s.open_groups refl
    where
      opens : (l : OpenGroup) (ls : List OpenGroup) → s.open_groups ≡ l ∷ ls → (b : Bool) → c.has_group ≡ b
          → Opens ws c.firsts b (upcoming_run_at ws i b) (l ∷ ls)
      opens l ls q b g =
          subst (λ x. Opens ws c.firsts x (upcoming_run_at ws i x) (l ∷ ls)) g
          (subst (Opens ws c.firsts c.has_group (upcoming_run_at ws i c.has_group)) q t.open_groups)

      inside : (l : OpenGroup) (ls : List OpenGroup) → s.open_groups ≡ l ∷ ls → (b : Bool) → c.has_group ≡ b
          → first_broken (code_rules ws used i c (point_frame p)) ≡ fault s (point_frame p) (run (frames_onward ws i))
      inside l ls q true g =
          rw (none_open c.depth (l ∷ ls) (t.depth ∙ ap length q), g, q, (opens l ls q true g).1)
      inside l ls q false g =
          let d : c.depth ≡ suc (length ls) = t.depth ∙ ap length q in
          let o = opens l ls q false g in
          let r : runs_of ws c.firsts c.depth ≡ points_in_scope (l ∷ ls) (run (frames_onward ws i)) =
          ap (runs_of ws c.firsts) d ∙ runs_in_scope ws c.firsts false (run (frames_onward ws i)) l ls o in
          let placed : eqb c.depth 0 || c.has_group ≡ has_bad_place s (point_frame p) =
          rw (none_open c.depth (l ∷ ls) d, g, q, o.1) in
          let numbered : eqb p.number 0 || among p.number (numbers_so_far ws i c) ≡ has_bad_number s (point_frame p) =
          ap (λ ns. eqb p.number 0 || among p.number ns) (sym (t.numbers (omega (arith, d)))) in
          let scaled : one_holds (scale_faults (runs_of ws c.firsts c.depth) p)
          ≡ has_bad_scale s (run (frames_onward ws i)) (point_frame p) =
          ap (λ in_scope. one_holds (scale_faults in_scope p)) (r ∙ sym (ap (λ ls. points_in_scope ls (run (frames_onward ws i))) q)) in
          same_tests _ _ _ _ (has_bad_type (point_frame p)) _ _ placed numbered scaled

      go : (ls : List OpenGroup) → s.open_groups ≡ ls
          → first_broken (code_rules ws used i c (point_frame p)) ≡ fault s (point_frame p) (run (frames_onward ws i))
      go [] q = rw (none_open c.depth [] (t.depth ∙ ap length q), q)
      go (l ∷ ls) q = inside l ls q c.has_group refl

  end_fault : (upcoming_run : List Point) → run (frames_onward ws i) ≡ []
      → first_broken (code_rules ws used i c end_frame) ≡ fault s end_frame upcoming_run
  end_fault upcoming_run e = go s.open_groups refl
    where
      go : (ls : List OpenGroup) → s.open_groups ≡ ls → first_broken (code_rules ws used i c end_frame) ≡ fault s end_frame upcoming_run
      go [] q = rw (none_open c.depth [] (t.depth ∙ ap length q), q)
      go (l ∷ ls) q =
          let d : c.depth ≡ suc (length ls) = t.depth ∙ ap length q in
          let m : c.depth - 1 ≡ length ls = omega (arith, d) in
          let o = subst (Opens ws c.firsts c.has_group []) q (no_upcoming_point e) in
          rw (none_open c.depth (l ∷ ls) d, one_open c.depth ls d, m, o.0, append-nil l.points, ← o.1, q)

  -- The same fault, for any frame.
  pub same_fault : (f : Frame) (fs : List Frame) → IdFits f → frames_onward ws i ≡ f ∷ fs
      → first_broken (code_rules ws used i c f) ≡ fault s f (run (f ∷ fs))
  same_fault (model_frame id) fs h e = model_fault_lem id [] h
  same_fault (group_frame h) fs u e = group_fault h [] (ap run e)
  same_fault (point_frame p) fs u e = point_fault_lem p ∙ ap (λ fs. fault s (point_frame p) (run fs)) e
  same_fault end_frame fs u e = end_fault [] (ap run e)
  same_fault malformed fs u e = refl
