-- Frames are accepted if and only if they keep all rules but 6, and rule 6: two conditions, each by the kinds of the frames.
use mathlib.Core.Path.{◌≡◌, refl, ap}
use mathlib.Core.Bool.{Bool, true, false, not, ◌&&◌, ◌||◌}
use mathlib.Core.List.{List, [], ◌∷◌}
use mathlib.Core.Logic.Iff
use mathlib.Core.Logic.{◌↔◌}
use Prim.Native.Nat.{ℕ, suc}
use borrow.Author.Tests.{not-false}
use lib.Dec.{eqb}
use lib.ListN.{length}
use Rattle.lists.specs.Each.{Each}
use Rattle.lists.specs.Members.{among}
use Rattle.lists.proofs.TestOutcomes.{clash}
use Rattle.lists.proofs.TestLaws.{none_broken}
use Rattle.catalog_frames.specs.Frames.{Frame, model_frame, group_frame, point_frame, end_frame, malformed, fill}
use Rattle.catalog.specs.State.{OpenGroup, State, opened, with_point, with_group, closed, next}
use Rattle.catalog.specs.Rules.{no_model, in_top, after_group, run, points_in_scope, lacks_content, rules}
use Rattle.catalog.specs.Checking.{accepted, check_from}
use Rattle.model_definitions.specs.Soundness.{SoundPoint}
use Rattle.model_definitions.proofs.AcceptedSteps.{accepted_step, accepted_end}
use Rattle.model_definitions.proofs.SoundFrames.{sound_point_lem, HeadUnbroken}

-- With the groups `ls` open, and `filled` if a fill group is in the top group, the frames keep all rules but perhaps 6, and close
-- all groups.
abbrev pub KeepsRulesBut6 : Bool → List OpenGroup → List Frame → Type 0
KeepsRulesBut6 filled ls [] = no_model ls ≡ true
KeepsRulesBut6 filled ls (model_frame id ∷ fs) = (no_model ls ≡ true) × KeepsRulesBut6 false (opened ∷ []) fs
KeepsRulesBut6 filled ls (group_frame h ∷ fs) =
    (no_model ls || in_top ls && filled ≡ false)
    × HeadUnbroken ls h
    × KeepsRulesBut6 (filled || eqb h.count_kind fill) (with_group ls) fs
KeepsRulesBut6 filled ls (point_frame p ∷ fs) =
    (no_model ls || after_group ls ≡ false)
    × SoundPoint (points_in_scope ls (p ∷ run fs)) p
    × KeepsRulesBut6 filled (with_point p ls) fs
KeepsRulesBut6 filled ls (end_frame ∷ fs) =
    (no_model ls ≡ false) × (lacks_content ls end_frame ≡ false) × KeepsRulesBut6 filled (closed ls) fs
KeepsRulesBut6 filled ls (malformed ∷ fs) = ⊥

-- With the model ids `ids` so far and the numbers `used` in the open model, the frames keep rule 6, and there are n models at the
-- end.
abbrev pub Numbered : ℕ → List ℕ → List ℕ → List Frame → Type 0
Numbered n ids used [] = length ids ≡ n
Numbered n ids used (model_frame id ∷ fs) =
    (eqb id 0 || eqb id 65535 || among id ids ≡ false) × Numbered n (id ∷ ids) [] fs
Numbered n ids used (group_frame h ∷ fs) =
    (eqb h.number 0 || among h.number used ≡ false) × Numbered n ids (h.number ∷ used) fs
Numbered n ids used (point_frame p ∷ fs) =
    (eqb p.number 0 || among p.number used ≡ false) × Numbered n ids (p.number ∷ used) fs
Numbered n ids used (end_frame ∷ fs) = Numbered n ids used fs
Numbered n ids used (malformed ∷ fs) = Numbered n ids used fs

-- Frames are accepted if and only if they keep all these rules.
pub accepted_frames : (fs : List Frame) (s : State) (i n : ℕ)
    → (check_from s i fs ≡ accepted n) ↔ (KeepsRulesBut6 s.has_fill s.open_groups fs × Numbered n s.ids s.numbers fs)
accepted_frames [] s i n = accepted_end s i n
accepted_frames (f ∷ fs) s i n =
    Iff.trans (accepted_step s i f fs n)
    (Iff.trans (Iff.and (none_broken (rules s f (run (f ∷ fs)))) (accepted_frames fs (next s f) (suc i) n)) (by_kind f))
  where
    by_kind : (g : Frame)
        → (Each (λ r. r.0 ≡ false) (rules s g (run (g ∷ fs)))
        × (KeepsRulesBut6 (next s g).has_fill (next s g).open_groups fs × Numbered n (next s g).ids (next s g).numbers fs))
        ↔ (KeepsRulesBut6 s.has_fill s.open_groups (g ∷ fs) × Numbered n s.ids s.numbers (g ∷ fs))
    by_kind (model_frame id) = (
      λ c. ((not-false (no_model s.open_groups) c.0.1.0, c.1.0), (c.0.1.1.1.0, c.1.1)),
      λ w. ((refl, (ap not w.0.0, (refl, (w.1.0, (refl, (refl, (refl, (refl, tt)))))))), (w.0.1, w.1.1)),
    )
    by_kind (group_frame h) = (
      λ c. let d = c.0.1.1 in
          ((c.0.1.0, (d.0, d.1.1.0, d.1.1.1.1.0), c.1.0), (d.1.0, c.1.1)),
      λ w. let u = w.0.1 in
          ((refl, (w.0.0, (u.0, (w.1.0, (u.1, (refl, (u.2, (refl, tt)))))))), (w.0.2, w.1.1)),
    )
    by_kind (point_frame p) =
        let sound = sound_point_lem (points_in_scope s.open_groups (p ∷ run fs)) p in (
          λ c. let d = c.0.1.1.1 in
              ((c.0.1.0, sound.0 (d.1.0, d.1.1.0), c.1.0), (d.0, c.1.1)),
          λ w. let u = sound.1 w.0.1 in
              ((refl, (w.0.0, (refl, (w.1.0, (u.0, (u.1, (refl, (refl, tt)))))))), (w.0.2, w.1.1)),
        )
    by_kind end_frame = (
      λ c. ((c.0.1.0, c.0.1.1.1.1.1.1.1.0, c.1.0), c.1.1),
      λ w. ((refl, (w.0.0, (refl, (refl, (refl, (refl, (refl, (w.0.1, tt)))))))), (w.0.2, w.1)),
    )
    by_kind malformed = (λ c. clash c.0.0, λ w. absurd w.0)
