-- The points of sound groups depend only on the points in scope: no other point is looked up for a scale factor or a count. So
-- it makes no difference what else a scope holds.
use mathlib.Core.Path.{◌≡◌, refl, sym, ap, ◌∙◌}
use mathlib.Core.Bool.{Bool, true, false, ◌||◌}
use mathlib.Core.List.{List, [], ◌∷◌, ◌++◌}
use Prim.Native.Nat.{ℕ, suc, ◌+◌, ◌*◌, ◌-◌}
use borrow.Author.Tests.{eqb-true}
use lib.Dec.{eqb}
use lib.ListN.{get_or, set}
use Rattle.lists.specs.Each.{Each}
use Rattle.lists.specs.Members.{among, In}
use Rattle.lists.proofs.TestOutcomes.{clash}
use Rattle.lists.proofs.InLaws.{in_either}
use Rattle.registers.specs.Registers.{join, shown_raw}
use Rattle.values.specs.Classes.{value, unimplemented, out_of_range, Classified, of_class, too_wide, unknown_type}
use Rattle.catalog_frames.specs.Frames.{Point, Head, fixed_scale, scale_by_point}
use Rattle.model_definitions.specs.Definitions.{Groups, no_group, group, points_size, point_frames}
use Rattle.model_definitions.specs.Soundness.{numbers_of, SoundGroups, ScaleResolves}
use Rattle.model_definitions.proofs.References.{points_resolve}
use Rattle.model_definitions.proofs.GroupNumbers.{point_among}
use Rattle.layout.specs.Points.{ModelPoint, Scope, Instance, point_class, scale_class, status_of, scale_of, scale_status, registers_at, point_at}
use Rattle.layout.specs.Layout.{with_point, within, count_of, groups_size, points_at, entered, groups_by, groups_at}
use Rattle.layout.proofs.CountsAgree.{count_agrees, measures_agree}
use Rattle.layout.proofs.InstanceLaws.{instances_agree}

-- Two scopes agree on these points.
abbrev pub Agree : List Point → Scope → Scope → Type 0
Agree ps s t = (p : Point) → In p ps → s p.number ≡ t p.number

-- ---- Scopes

-- Inside an instance, two scopes agree on a number if they agreed before or if a point of the instance has it.
within_agrees : (body : List ℕ) (offset : ℕ) (ps : List Point) (s t : Scope) (n : ℕ)
    → (among n (numbers_of (point_frames ps)) ≡ false → s n ≡ t n)
    → within body offset ps s n ≡ within body offset ps t n
unfolding within
within_agrees body offset [] s t n h = h refl
within_agrees body offset (p ∷ ps) s t n h =
    within_agrees body (offset + p.size) ps (with_point p.number (get_or body offset 0) s)
    (with_point p.number (get_or body offset 0) t) n (λ e. go (eqb n p.number) (among n (numbers_of (point_frames ps))) e h)
  where
    go : (b a : Bool) → a ≡ false → (b || a ≡ false → s n ≡ t n)
        → ◌≡◌ {A = ℕ} (elim b [ true ↦ get_or body offset 0 | false ↦ s n ]) (elim b [ true ↦ get_or body offset 0 | false ↦ t n ])
    go true a e f = refl
    go false a e f = f e

-- They agree on the points of the instance.
pub within_own : (body : List ℕ) (offset : ℕ) (ps : List Point) (s t : Scope)
    → Agree ps (within body offset ps s) (within body offset ps t)
within_own body offset ps s t p i = within_agrees body offset ps s t p.number (λ e. clash (sym (point_among p ps i) ∙ e))

-- They agree on the points of the instance and on all points on which they agreed before.
pub scope_agrees : (body : List ℕ) (offset : ℕ) (ps enclosing : List Point) (s t : Scope) → Agree enclosing s t
    → Agree (ps ++ enclosing) (within body offset ps s) (within body offset ps t)
scope_agrees body offset ps enclosing s t h p i =
    within_agrees body offset ps s t p.number (λ e.
    in_either p ps enclosing i (λ j. clash (sym (point_among p ps j) ∙ e)) (h p))

-- ---- Points

module _ (p : Point) (r s : ℕ) (same : p.scale_kind ≡ scale_by_point → r ≡ s) where
  -- The register of the scale point matters only to a point that has one: to the status
  pub same_status_lem : (c : Classified) → status_of p c r ≡ status_of p c s
  same_status_lem (of_class value) = go (eqb p.scale_kind scale_by_point) refl
    where
      go : (b : Bool) → eqb p.scale_kind scale_by_point ≡ b
          → ◌≡◌ {A = ℕ} (elim b [ true ↦ scale_status (scale_class r) | false ↦ 0 ])
          (elim b [ true ↦ scale_status (scale_class s) | false ↦ 0 ])
      go true e = ap (λ (x : ℕ). scale_status (scale_class x)) (same (eqb-true p.scale_kind scale_by_point e))
      go false e = refl
  same_status_lem (of_class unimplemented) = refl
  same_status_lem (of_class out_of_range) = refl
  same_status_lem too_wide = refl
  same_status_lem unknown_type = refl

  -- and to the scale.
  pub same_scale_lem : (status : ℕ) → scale_of p status r ≡ scale_of p status s
  same_scale_lem status = go (eqb status 0) (eqb p.scale_kind fixed_scale) (eqb p.scale_kind scale_by_point) refl
    where
      go : (a b c : Bool) → eqb p.scale_kind scale_by_point ≡ c
          → ◌≡◌ {A = ℕ}
          (elim a [ false ↦ 0 | true ↦ elim b [ true ↦ p.scale | false ↦ elim c [ true ↦ r | false ↦ 0 ] ] ])
          (elim a [ false ↦ 0 | true ↦ elim b [ true ↦ p.scale | false ↦ elim c [ true ↦ s | false ↦ 0 ] ] ])
      go false b c e = refl
      go true true c e = refl
      go true false true e = same (eqb-true p.scale_kind scale_by_point e)
      go true false false e = refl

-- A point by the raw value of all its registers, which gives its class, the raw value shown, and the register of its scale
-- point.
abbrev pub shown_as : List ℕ → ℕ → Point → ℕ → ℕ → ℕ → ModelPoint
shown_as path offset p whole raw register =
    let status = status_of p (point_class p whole) register in
    record {
      offset = offset;
      definition = p;
      level2 = get_or path 0 0;
      level3 = get_or path 1 0;
      level4 = get_or path 2 0;
      status = status;
      raw = raw;
      scale = scale_of p status register;
    }

-- The register of the scale point matters only to a point that has one.
pub shown_same : (path : List ℕ) (offset : ℕ) (p : Point) (whole raw r s : ℕ) → (p.scale_kind ≡ scale_by_point → r ≡ s)
    → shown_as path offset p whole raw r ≡ shown_as path offset p whole raw s
shown_same path offset p whole raw r s same =
    let c = point_class p whole in
    let show : ℕ → ℕ → ModelPoint = λ status scale. record {
      offset = offset;
      definition = p;
      level2 = get_or path 0 0;
      level3 = get_or path 1 0;
      level4 = get_or path 2 0;
      status = status;
      raw = raw;
      scale = scale;
    } in
    ap (λ x. show x (scale_of p x r)) (same_status_lem p r s same c)
    ∙ ap (show (status_of p c s)) (same_scale_lem p r s same (status_of p c s))

-- Instances that agree: they have the same path, and their scopes agree on these points.
pub record Alike (ps : List Point) (i j : Instance) : Type 0 where
  pub same_path : i.path ≡ j.path
  pub agree : Agree ps i.scope j.scope

-- A point whose scale factor resolves is the same in instances that agree.
point_agrees : (body : List ℕ) (offset : ℕ) (around : List Point) (p : Point) (i j : Instance) → ScaleResolves around p
    → Alike around i j → point_at body i offset p ≡ point_at body j offset p
unfolding point_at
point_agrees body offset around p i j r h =
    let registers = registers_at body offset p in
    ap (λ path. shown_as path offset p (join registers) (shown_raw registers) (i.scope p.scale)) h.same_path
    ∙ shown_same j.path offset p (join registers) (shown_raw registers) (i.scope p.scale) (j.scope p.scale) (λ k.
    let f = r k in ap i.scope (sym f.2) ∙ h.agree f.0 f.1 ∙ ap j.scope f.2)

-- So are points whose scale factors resolve.
pub points_agree : (body : List ℕ) (offset : ℕ) (around ps : List Point) (i j : Instance) → Each (ScaleResolves around) ps
    → Alike around i j → points_at body i offset ps ≡ points_at body j offset ps
unfolding points_at
points_agree body offset around [] i j r h = refl
points_agree body offset around (p ∷ ps) i j r h =
    rw (point_agrees body offset around p i j r.0 h, points_agree body (offset + p.size) around ps i j r.1 h)

-- ---- Groups

-- Where two instances agree, the instances entered from them agree on the points of the entered group too.
pub alike_entered : (body : List ℕ) (level n at : ℕ) (ps enclosing : List Point) (i j : Instance) → Alike enclosing i j
    → Alike (ps ++ enclosing) (entered body level n at ps i) (entered body level n at ps j)
unfolding entered
alike_entered body level n at ps enclosing i j h =
    record {
      same_path = ap (λ path. set path (level - 2) n) h.same_path;
      agree = scope_agrees body _ ps enclosing i.scope j.scope h.agree;
    }

module _ (body : List ℕ) (fill : ℕ) (top : List Point) (s s' : Scope) (counts : Agree top s s') where
  -- The points of sound groups are the same in instances that agree on the enclosing points, by counts from scopes that agree
  -- on the top group.
  pub groups_agree : (offset : ℕ) (enclosing : List Point) (level : ℕ) (g : Groups) → SoundGroups top enclosing level g
      → (i j : Instance) → Alike enclosing i j
      → groups_at body (count_of s fill) level i offset g ≡ groups_at body (count_of s' fill) level j offset g
  unfolding groups_by
  groups_agree offset enclosing level no_group e i j h = refl
  groups_agree offset enclosing level (group head ps inside next) e i j h =
      let c = count_agrees s s' top counts fill level head next e.0 in
      let z = measures_agree s s' top counts points_size fill (ps ++ enclosing) (suc level) inside e.3 in
      let size = points_size ps + groups_size (count_of s' fill) inside in
      let part : Instance → (Head → ℕ) → ℕ → ℕ → List ModelPoint = λ around count n at.
      points_at body (entered body level n at ps around) at ps
      ++ groups_at body count (suc level) (entered body level n at ps around) (at + points_size ps) inside in
      let each : (n at : ℕ) → part i (count_of s fill) n at ≡ part j (count_of s' fill) n at = λ n at.
      let a = alike_entered body level n at ps enclosing i j h in
      rw (
        points_agree body at (ps ++ enclosing) ps (entered body level n at ps i) (entered body level n at ps j)
            (points_resolve (ps ++ enclosing) ps e.2) a,
        groups_agree (at + points_size ps) (ps ++ enclosing) (suc level) inside e.3 (entered body level n at ps i)
            (entered body level n at ps j) a,
      ) in
      let b = groups_agree (offset + count_of s' fill head * size) enclosing level next e.4 i j h in
      rw (
        c,
        z,
        instances_agree (part i (count_of s fill)) (part j (count_of s' fill)) each (count_of s' fill head) 0 offset size,
        b,
      )
