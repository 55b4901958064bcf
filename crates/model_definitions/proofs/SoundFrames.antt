-- Sound points and heads against the rules: when a point frame keeps rules 7 and 8, and a group frame rules 5, 7 and 9.
use mathlib.Core.Path.{◌≡◌, refl, sym, ap}
use mathlib.Core.Bool.{true, false, not, ◌||◌}
use mathlib.Core.List.{List, [], ◌∷◌}
use mathlib.Core.Logic.{◌↔◌}
use Prim.Native.Nat.{suc}
use native.Mathlib.Omega.{arith}
use borrow.Author.Tests.{eqb-true, eqb-false, leb-false, ltb-false, eq-eqb, ne_eqb, lt-leb, le-ltb, not-true, not-false}
use lib.Dec.{eqb, leb, ltb}
use lib.ListN.{length}
use Rattle.lists.specs.Tests.{one_holds}
use Rattle.lists.proofs.TestOutcomes.{clash}
use Rattle.lists.proofs.TestLaws.{neither, excludes, clause, none_of}
use Rattle.point_types.specs.Rows.{may_scale}
use Rattle.values.specs.Classes.{twos_complement, is_scale_factor}
use Rattle.catalog_frames.specs.Frames.{Point, Head, point_frame, no_scale, fixed_scale, scale_by_point, constant_count, count_by_point}
use Rattle.catalog_frames.specs.Frames.{fill}
use Rattle.catalog.specs.State.{OpenGroup}
use Rattle.frame_rules.specs.FrameTests.{is_size_of, has_bad_type}
use Rattle.catalog.specs.Rules.{in_top, top_points, has_scale_factor, has_count_point, scale_faults}
use Rattle.catalog.specs.Rules.{count_faults}
use Rattle.model_definitions.specs.Definitions.{Groups, no_group}
use Rattle.model_definitions.specs.Soundness.{SoundPoint, SoundHead}

-- A point frame breaks neither rule 7 nor rule 8 if and only if the point is sound.
pub sound_point_lem : (in_scope : List Point) (p : Point)
    → ((has_bad_type (point_frame p) ≡ false) × (one_holds (scale_faults in_scope p) ≡ false)) ↔ SoundPoint in_scope p
sound_point_lem in_scope p =
    let k = p.scale_kind in
    let size = is_size_of p.type_code p.size in
    let flags = neither (not size || ltb 1 p.mandatory) (ltb 1 p.access) in
    let sizes = neither (not size) (ltb 1 p.mandatory) in
    let faults = none_of (scale_faults in_scope p) in
    let unscaled = clause k no_scale (eqb p.scale 0) in
    let scalable = excludes (not (eqb k no_scale)) (not (may_scale p.type_code)) in
    let fixed = clause k fixed_scale (is_scale_factor (twos_complement 16 p.scale)) in
    let found = clause k scale_by_point (has_scale_factor p.scale in_scope) in (
      λ e.
          let f = flags.0 e.0 in
          let g = sizes.0 f.0 in
          let c = faults.0 e.1 in
          record {
            sized = not-false size g.0;
            mandatory_flag = ltb-false 1 p.mandatory g.1;
            access_flag = ltb-false 1 p.access f.1;
            scale_known = ltb-false 2 k c.0;
            unscaled = λ q. eqb-true p.scale 0 (unscaled.0 c.1.0 q);
            scalable = λ q. not-false (may_scale p.type_code) (scalable.0 c.1.1.0 (rw (ne_eqb k no_scale q)));
            in_range = fixed.0 c.1.1.1.0;
            resolved = found.0 c.1.1.1.1.0;
          },
      λ s.
          let sized = sizes.1 (ap not s.sized, le-ltb 1 p.mandatory s.mandatory_flag) in
          let known = le-ltb 2 k s.scale_known in
          let none = unscaled.1 (λ q. eq-eqb p.scale 0 (s.unscaled q)) in
          let some = scalable.1 (λ q. ap not (s.scalable (eqb-false k no_scale (not-true (eqb k no_scale) q)))) in
          let named = found.1 s.resolved in (
            flags.1 (sized, le-ltb 1 p.access s.access_flag),
            faults.1 (known, (none, (some, (fixed.1 s.in_range, (named, tt))))),
          ),
    )

-- The top group is the innermost open one if and only if a new group would be at level 2.
in_top_lem : (ls : List OpenGroup) → (in_top ls ≡ true) ↔ (suc (length ls) ≡ 2)
in_top_lem [] = (λ e. clash (sym e), λ e. absurd (omega arith))
in_top_lem (l ∷ []) = (λ e. refl, λ e. refl)
in_top_lem (l ∷ k ∷ ls) = (λ e. clash (sym e), λ e. absurd (omega arith))

-- A group frame breaks none of the rules 5, 7 and 9, with the groups `ls` open.
abbrev pub HeadUnbroken : List OpenGroup → Head → Type 0
HeadUnbroken ls h =
    (leb 4 (length ls) ≡ false) × (ltb 1 h.group_type ≡ false) × (one_holds (count_faults (top_points ls) (in_top ls) h) ≡ false)

-- It breaks none of them, and no group follows if it is a fill group in the top group, if and only if its head is sound.
pub sound_head : (ls : List OpenGroup) (h : Head) (following : Groups)
    → (HeadUnbroken ls h × (h.count_kind ≡ fill → in_top ls ≡ true → following ≡ no_group))
    ↔ SoundHead (top_points ls) (suc (length ls)) h following
sound_head ls h following =
    let k = h.count_kind in
    let faults = none_of (count_faults (top_points ls) (in_top ls) h) in
    let constant = excludes (eqb k constant_count) (eqb h.count 0) in
    let counted = clause k count_by_point (has_count_point h.count (top_points ls)) in
    let direct = clause k fill (in_top ls) in
    let uncounted = clause k fill (eqb h.count 0) in (
      λ e.
          let c = faults.0 e.0.2 in
          record {
            level_in_range = leb-false 4 (length ls) e.0.0;
            type_flag = ltb-false 1 h.group_type e.0.1;
            count_known = ltb-false 2 k c.0;
            constant = λ q. let some = eqb-false h.count 0 (constant.0 c.1.0 (eq-eqb k constant_count q)) in omega arith;
            counted = counted.0 c.1.1.0;
            filling = λ q. let top = direct.0 c.1.1.1.0 q in (
              (in_top_lem ls).0 top,
              e.1 q top,
              eqb-true h.count 0 (uncounted.0 c.1.1.1.1.0 q),
            );
          },
      λ s.
          let known = le-ltb 2 k s.count_known in
          let positive = constant.1 λ t.
          ne_eqb h.count 0 (λ z. let c = s.constant (eqb-true k constant_count t) in absurd (omega arith)) in
          let top = direct.1 (λ q. (in_top_lem ls).1 (s.filling q).0) in
          let zero = uncounted.1 (λ q. eq-eqb h.count 0 (s.filling q).2) in
          let unbroken = faults.1 (known, (positive, (counted.1 s.counted, (top, (zero, tt))))) in (
            (lt-leb 4 (length ls) s.level_in_range, le-ltb 1 h.group_type s.type_flag, unbroken),
            λ q t. (s.filling q).1,
          ),
    )
