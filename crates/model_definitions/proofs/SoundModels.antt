-- The frames of models are accepted if and only if the models are sound.
use mathlib.Core.Path.{◌≡◌, refl, sym, subst, ◌∙◌}
use mathlib.Core.Bool.{Bool, true, false, not, ◌&&◌, ◌||◌, or-true}
use mathlib.Core.List.{List, [], ◌∷◌, ◌++◌, append_assoc, append-nil}
use mathlib.Core.Logic.{◌↔◌}
use Prim.Native.Nat.{ℕ, suc, ◌+◌, ◌≤◌}
use native.Mathlib.Omega.{arith}
use borrow.Author.Tests.{eqb-true, eq-eqb, ne_eqb}
use lib.Dec.{eqb}
use lib.ListN.{length}
use Rattle.lists.specs.Each.{Each}
use Rattle.lists.proofs.TestOutcomes.{impossible, clash, both}
use Rattle.lists.proofs.TestLaws.{excludes}
use Rattle.catalog_frames.specs.Frames.{Point, Head, Frame, end_frame, fill}
use Rattle.catalog.specs.State.{OpenGroup, opened}
use Rattle.catalog.specs.Rules.{no_model, in_top, run, points_of, top_points, no_point}
use Rattle.model_definitions.specs.Definitions.{Groups, no_group, group, Definition, point_frames, group_frames, definition_frames}
use Rattle.model_definitions.specs.Definitions.{catalog_frames}
use Rattle.model_definitions.specs.Soundness.{SoundPoint, SoundGroups, SoundDefinition, numbers_of, ids_of}
use Rattle.model_definitions.proofs.AcceptedFrames.{KeepsRulesBut6, Numbered}
use Rattle.model_definitions.proofs.SoundFrames.{sound_head}
use Rattle.model_definitions.proofs.TreeFrames.{content_frames, group_frames_lem, definition_frames_lem, run_points, run_groups}
use Rattle.model_definitions.proofs.NewNumbers.{New}
use Rattle.model_definitions.proofs.NumberedModels.{used_after, numbered_model}

-- ---- Points

-- An open group with these points of its own and no group yet.
abbrev with_points : List Point → OpenGroup
with_points ps = record { points = ps; has_group = false }

-- The points `ps` of a group, after its points `before`, keep all rules but 6 if and only if they are sound.
points_accepted : (ps before : List Point) (filled : Bool) (ls : List OpenGroup) (fs : List Frame) → run fs ≡ []
    → KeepsRulesBut6 filled (with_points before ∷ ls) (point_frames ps ++ fs)
    ↔ (Each (SoundPoint ((before ++ ps) ++ points_of ls)) ps × KeepsRulesBut6 filled (with_points (before ++ ps) ∷ ls) fs)
points_accepted [] before filled ls fs e = rw (append-nil before) (λ w. (tt, w), λ w. w.1)
points_accepted (p ∷ ps) before filled ls fs e =
    let following = points_accepted ps (before ++ (p ∷ [])) filled ls fs e in
    let rest = rw (append_assoc before (p ∷ []) ps) at following in
    rw (run_points ps fs e) (
      λ w. let r = rest.0 w.2 in ((w.1, r.0), r.1),
      λ w. (refl, w.0.0, rest.1 (w.0.1, w.1)),
    )

-- ---- Groups

-- Is there a group in `g`, or was there one before?
abbrev any_group : Groups → Bool → Bool
any_group no_group before = before
any_group (group h ps inside following) before = true

-- If there was one before, there still is.
still_any : (g : Groups) → any_group g true ≡ true
still_any no_group = refl
still_any (group h ps inside following) = refl

-- The open group `l` after the groups `g` in it.
abbrev past : Groups → OpenGroup → OpenGroup
past g l = record { points = l.points; has_group = any_group g l.has_group }

-- Is there a fill group among the groups `g` and those in them, or was there one before?
abbrev any_fill : Groups → Bool → Bool
any_fill no_group before = before
any_fill (group h ps inside following) before = any_fill following (any_fill inside (before || eqb h.count_kind fill))

-- If there was one before, there still is one.
still_fill : (g : Groups) → any_fill g true ≡ true
still_fill no_group = refl
still_fill (group h ps inside following) = rw (still_fill inside) (still_fill following)

-- Sound groups below the top group have no fill group.
no_fill_lem : (top enclosing : List Point) (level : ℕ) (g : Groups) → 3 ≤ level → SoundGroups top enclosing level g
    → any_fill g false ≡ false
no_fill_lem top enclosing level no_group h s = refl
no_fill_lem top enclosing level (group k ps inside following) h s =
    let constant : eqb k.count_kind fill ≡ false =
    ne_eqb k.count_kind fill (λ q. let two = (s.0.filling q).0 in absurd (omega arith)) in
    rw (constant, no_fill_lem top (ps ++ enclosing) (suc level) inside (omega arith) s.3)
    (no_fill_lem top enclosing level following h s.4)

-- If a sound group is a fill group, or has one inside, no group follows it.
fills_last : (top enclosing : List Point) (n : ℕ) (h : Head) (ps : List Point) (inside following : Groups)
    → SoundGroups top enclosing (suc (suc n)) (group h ps inside following) → any_fill inside (eqb h.count_kind fill) ≡ true
    → following ≡ no_group
fills_last top enclosing n h ps inside following s = go (eqb h.count_kind fill) refl
  where
    go : (b : Bool) → eqb h.count_kind fill ≡ b → any_fill inside b ≡ true → following ≡ no_group
    go true q f = (s.0.filling (eqb-true h.count_kind fill q)).1
    go false q f = clash (sym f ∙ no_fill_lem top (ps ++ enclosing) (suc (suc (suc n))) inside (omega arith) s.3)

-- Groups in the innermost open group keep all rules but 6 if and only if they are sound and, in the top group, do not follow a
-- fill group.
abbrev GroupsAccepted : Groups → Type 0
GroupsAccepted g =
    (filled : Bool) (l : OpenGroup) (ls : List OpenGroup) (fs : List Frame)
    → KeepsRulesBut6 filled (l ∷ ls) (group_frames g ++ fs)
    ↔ (SoundGroups (top_points (l ∷ ls)) (points_of (l ∷ ls)) (suc (suc (length ls))) g
    × (in_top (l ∷ ls) && filled ≡ true → g ≡ no_group)
    × KeepsRulesBut6 (any_fill g filled) (past g l ∷ ls) fs)

-- The content of a group, up to its end frame, keeps all rules but 6 if and only if its points and groups are sound and rule 10
-- holds.
content_accepted : (ps : List Point) (g : Groups) → GroupsAccepted g → (filled : Bool) (ls : List OpenGroup) (fs : List Frame)
    → no_model ls && filled ≡ false
    → KeepsRulesBut6 filled (opened ∷ ls) (content_frames ps g fs)
    ↔ (Each (SoundPoint (ps ++ points_of ls)) ps
    × SoundGroups (top_points (with_points ps ∷ ls)) (ps ++ points_of ls) (suc (suc (length ls))) g
    × (no_point ps && not (no_model ls && any_group g false) ≡ false)
    × KeepsRulesBut6 (any_fill g filled) ls fs)
content_accepted ps g accepted_below filled ls fs unfilled =
    let own = points_accepted ps [] filled ls (group_frames g ++ (end_frame ∷ fs)) (run_groups g fs) in
    let lower = accepted_below filled (with_points ps) ls (end_frame ∷ fs) in (
      λ w.
          let o = own.0 w in
          let r = lower.0 o.1 in
          (o.0, r.0, r.2.1, r.2.2),
      λ w. own.1 (w.0, lower.1 (w.1, λ t. clash (sym t ∙ unfilled), (refl, w.2, w.3))),
    )

-- Rule 10 for a lower group: it has a point of its own.
has_point_lem : (ps : List Point) → (no_point ps && true ≡ false) ↔ (1 ≤ length ps)
has_point_lem [] = (λ e. clash e, λ h. absurd (omega arith))
has_point_lem (p ∷ ps) = (λ e. omega arith, λ h. refl)

-- A test that implies that a group is no group is false.
never_none : (b : Bool) (h : Head) (ps : List Point) (inside following : Groups) → (b ≡ true → group h ps inside following ≡ no_group)
    → b ≡ false
never_none true h ps inside following f = let z = f refl in cc
never_none false h ps inside following f = refl

-- Equal lists of frames keep the same rules.
rewritten : {B : Type 0} (filled : Bool) (ls : List OpenGroup) {fs gs : List Frame} → fs ≡ gs
    → KeepsRulesBut6 filled ls gs ↔ B → KeepsRulesBut6 filled ls fs ↔ B
rewritten {B = B} filled ls e h = subst (λ x. KeepsRulesBut6 filled ls x ↔ B) (sym e) h

-- If this holds for the groups in a group and for those after it, it holds for the group and those after it.
group_accepted : (h : Head) (ps : List Point) (inside following : Groups) → GroupsAccepted inside → GroupsAccepted following
    → GroupsAccepted (group h ps inside following)
group_accepted h ps inside following accepted_inside accepted_after = λ filled l ls fs.
    let around = past (group h ps inside following) l in
    let direct = in_top (l ∷ ls) in
    let is_fill = eqb h.count_kind fill in
    let now = any_fill inside (filled || is_fill) in
    let held = content_accepted ps inside accepted_inside (filled || is_fill) (around ∷ ls) (group_frames following ++ fs) refl in
    let side = rw (still_any following) at (accepted_after now around ls fs) in
    let head = sound_head (l ∷ ls) h following in
    rewritten filled (l ∷ ls) (group_frames_lem h ps inside following fs) (
      λ w.
          let c = held.0 w.2 in
          let r = side.0 c.3 in
          let last : h.count_kind ≡ fill → direct ≡ true → following ≡ no_group =
          λ q t. r.1 (rw (t, eq-eqb h.count_kind fill q, or-true filled) (still_fill inside)) in
          ((head.0 (w.1, last), (has_point_lem ps).0 c.2, c.0, c.1, r.0), λ t. clash (sym t ∙ w.0), r.2),
      λ w.
          let s = w.0 in
          let placed = never_none (direct && filled) h ps inside following w.1 in
          let last : direct && now ≡ true → following ≡ no_group = λ t.
          let b = both direct now t in
          let fills = rw ((excludes direct filled).0 placed b.0) at b.1 in
          fills_last (top_points (l ∷ ls)) (points_of (l ∷ ls)) (length ls) h ps inside following s fills in
          (placed, (head.1 s.0).0, held.1 (s.2, s.3, (has_point_lem ps).1 s.1, side.1 (s.4, last, w.2))),
    )

-- So it holds for all groups.
groups_accepted : (g : Groups) → GroupsAccepted g
groups_accepted no_group = λ filled l ls fs. (λ w. (tt, λ t. refl, w), λ w. w.2)
groups_accepted (group h ps inside following) = group_accepted h ps inside following (groups_accepted inside) (groups_accepted following)

-- ---- Models

-- Rule 10 for a top group: it has a point or a group.
has_content : (ps : List Point) (g : Groups) → (no_point ps && not (any_group g false) ≡ false) ↔ (ps ≡ [] → g ≡ no_group → ⊥)
has_content [] no_group = (λ e. clash e, λ h. absurd (h refl refl))
has_content [] (group h ps inside following) = (λ e p g. impossible (cc), λ h. refl)
has_content (p ∷ ps) g = (λ e q h. impossible (cc), λ h. refl)

-- A model keeps all rules but 6 if and only if its points and groups are sound and it is not empty.
model_accepted : (d : Definition) (filled : Bool) (fs : List Frame)
    → KeepsRulesBut6 filled [] (definition_frames d ++ fs)
    ↔ (Each (SoundPoint d.top.points) d.top.points
    × SoundGroups d.top.points d.top.points 2 d.top.groups
    × (d.top.points ≡ [] → d.top.groups ≡ no_group → ⊥)
    × KeepsRulesBut6 (any_fill d.top.groups false) [] fs)
model_accepted d filled fs =
    let ps = d.top.points in
    let g = d.top.groups in
    let held = rw (append-nil ps) at (content_accepted ps g (groups_accepted g) false [] fs refl) in
    let some = has_content ps g in
    rewritten filled [] (definition_frames_lem d fs) (
      λ w. let c = held.0 w.1 in (c.0, c.1, some.0 c.2, c.3),
      λ w. (refl, held.1 (w.0, w.1, some.1 w.2, w.3)),
    )

-- The frames of models, after models with the ids `ids`, break no rule if and only if the models are sound and their ids are new.
pub models_sound : (ds : List Definition) (n : ℕ) (filled : Bool) (ids used : List ℕ)
    → (KeepsRulesBut6 filled [] (catalog_frames ds) × Numbered n ids used (catalog_frames ds))
    ↔ (Each SoundDefinition ds × New ids (ids_of ds) × (length ids + length ds ≡ n))
models_sound [] n filled ids used =
    (λ w. (tt, tt, let e = w.1 in omega arith), λ w. (refl, let e = w.2 in omega arith))
models_sound (d ∷ ds) n filled ids used =
    let ns = numbers_of (definition_frames d) in
    let parses = model_accepted d filled (catalog_frames ds) in
    let numbers = numbered_model n ids used d (catalog_frames ds) in
    let rest = models_sound ds n (any_fill d.top.groups false) (d.id ∷ ids) (used_after ns []) in (
      λ w.
          let s = parses.0 w.0 in
          let m = numbers.0 w.1 in
          let r = rest.0 (s.3, m.3) in
          let model : SoundDefinition d = record {
            not_zero = m.0.0;
            not_marker = m.0.1;
            numbered = m.1;
            distinct = m.2;
            not_empty = s.2;
            points = s.0;
            groups = s.1;
          } in
          ((model, r.0), (m.0.2, r.1), let e = r.2 in omega arith),
      λ w.
          let s = w.0.0 in
          let count = w.2 in
          let r = rest.1 (w.0.1, w.1.1, omega arith) in (
            parses.1 (s.points, s.groups, s.not_empty, r.0),
            numbers.1 ((s.not_zero, s.not_marker, w.1.0), s.numbered, s.distinct, r.1),
          ),
    )
