-- One point of a model after a write to the point w: it is w, or w is its scale factor, or neither.
use mathlib.Core.Path.{◌≡◌, refl, sym, ap, subst, ◌∙◌}
use mathlib.Core.Bool.{Bool, true, false, not, ◌&&◌}
use mathlib.Core.List.{List}
use mathlib.Core.Logic.{◌⊎◌, inl, inr, ⊎_elim}
use Prim.Native.Nat.{ℕ, ◌+◌, ◌≤◌}
use native.Mathlib.Omega.{arith}
use borrow.Author.Tests.{eqb-true, eqb-false, eq-eqb, not-true}
use lib.Dec.{eqb}
use lib.ListN.{length, take, drop, get_or, length-take}
use lib.Seq.{sets}
use Rattle.lists.specs.Members.{In}
use Rattle.lists.proofs.TestOutcomes.{both, fails}
use Rattle.registers.specs.Registers.{join, split, shown_raw, too_wide}
use Rattle.registers.proofs.Joining.{shown}
use Rattle.registers.proofs.Splitting.{split_length, join_split, one_register}
use Rattle.registers.proofs.StoredRegisters.{stored_outside, run_stored, first_stored, part_stays}
use Rattle.point_types.specs.Rows.{may_scale}
use Rattle.values.specs.Classes.{value, of_class, is_value, is_unimplemented_class}
use Rattle.values.proofs.ClassCases.{value_class}
use Rattle.catalog_frames.specs.Frames.{Point, scale_by_point, sunssf}
use Rattle.frame_rules.specs.FrameTests.{is_size_of}
use Rattle.model_definitions.specs.Definitions.{Content}
use Rattle.model_definitions.specs.Soundness.{SoundPoint, ScaleResolves}
use Rattle.layout.specs.Points.{ModelPoint, Scope, point_class, status_of, scale_of, registers_at, point_at}
use Rattle.layout.specs.Paths.{depth_in, agree_to, path_of}
use Rattle.layout.proofs.ScopeOnly.{same_status_lem, same_scale_lem, shown_as, shown_same}
use Rattle.layout.proofs.ValueStatus as status
use Rattle.layout.proofs.Places.{Place}
use Rattle.layout.proofs.Depths.{levels, agree_itself}
use Rattle.writing.specs.Writing.{can_hold}
use Rattle.writing.specs.AfterWriting.{Holds, rescaled, PointAfter}
use Rattle.writing.proofs.ScaledTypes as types
use Rattle.writing.proofs.PairedWalk.{in_scope}

-- What is known of a write of `raw` to the point w of a body, by a definition with the points `defined`.
pub record Write (defined : List Point) (w : ModelPoint) (raw : ℕ) (body : List ℕ) : Type 0 where
  pub one_point : (p q : Point) → In p defined → In q defined → p.number ≡ q.number → p ≡ q
  pub known : In w.definition defined
  pub sized : is_size_of w.definition.type_code w.definition.size ≡ true
  pub small : w.definition.size ≤ 4
  pub inside : w.offset + w.definition.size ≤ length body
  pub implemented : is_unimplemented_class (point_class w.definition w.raw) ≡ false
  pub holds : can_hold w.definition raw ≡ true

module _ (top : Content) (w : ModelPoint) (raw : ℕ) (body : List ℕ) where
  -- The number of instance numbers that lead to the point written.
  abbrev pub depth : ℕ
  depth = depth_in w.definition.number top.groups

  -- The registers written,
  abbrev values : List ℕ
  values = split w.definition.size raw

  -- and the body with them.
  abbrev pub new : List ℕ
  new = sets body w.offset values

  -- Does this number, used in the instance with this path, name the point written?
  abbrev pub is_written : List ℕ → ℕ → Bool
  is_written path number = eqb number w.definition.number && agree_to depth (path_of w) (levels path)

  -- The register in scope under this number after the write; `register` is that before it.
  abbrev pub becomes : List ℕ → ℕ → ℕ → ℕ
  becomes path number register = elim (is_written path number) [ true ↦ get_or new w.offset 0 | false ↦ register ]

  -- It is the new register if the number names the point written,
  becomes_written : (path : List ℕ) (number register : ℕ) → is_written path number ≡ true
      → becomes path number register ≡ get_or new w.offset 0
  becomes_written path number register e = ap (λ b. elim b [ true ↦ get_or new w.offset 0 | false ↦ register ]) e

  -- and else the old one.
  pub becomes_other : (path : List ℕ) (number register : ℕ) → is_written path number ≡ false
      → becomes path number register ≡ register
  becomes_other path number register e = ap (λ b. elim b [ true ↦ get_or new w.offset 0 | false ↦ register ]) e

  -- Scope t is scope s after the write, for the points `visible` that are in scope in the instance with this path.
  abbrev pub Scopes : List Point → List ℕ → Scope → Scope → Type 0
  Scopes visible path s t = (p : Point) → In p visible → t p.number ≡ becomes path p.number (s p.number)

  module _ (defined : List Point) (x : Write defined w raw body) where
    -- The number of registers written is the size of the point,
    count : length values ≡ w.definition.size
    count = split_length w.definition.size raw

    -- and they lie in the body.
    fitting : w.offset + length values ≤ length body
    fitting = omega (arith, count, x.inside)

    module _ (s : Scope) (path : List ℕ) (a : ℕ) (p : Point) (place : Place top w (point_at body (in_scope s path) a p)) where
      -- The registers of another point lie before or after those written.
      away : (a ≡ w.offset → ⊥) → (a + p.size ≤ w.offset) ⊎ (w.offset + length values ≤ a)
      unfolding point_at
      away other = subst (λ (n : ℕ). (a + p.size ≤ w.offset) ⊎ (w.offset + n ≤ a)) (sym count) (place.apart other)

      -- The first register of a point after the write.
      pub own_register : 1 ≤ p.size → get_or new a 0 ≡ becomes path p.number (get_or body a 0)
      unfolding point_at
      own_register some = go (eqb a w.offset) refl
        where
          go : (b : Bool) → eqb a w.offset ≡ b → get_or new a 0 ≡ becomes path p.number (get_or body a 0)
          go true e =
              let here = eqb-true a w.offset e in
              let same = place.same here in
              let number : p.number ≡ w.definition.number = ap (λ (x : ModelPoint). x.definition.number) same in
              let way : levels path ≡ path_of w = ap path_of same in
              let t : is_written path p.number ≡ true =
              rw (eq-eqb p.number w.definition.number number, way) (agree_itself depth (path_of w)) in
              ap (λ (i : ℕ). get_or new i 0) here ∙ sym (becomes_written path p.number (get_or body a 0) t)
          go false e =
              let other = eqb-false a w.offset e in
              let t : is_written path p.number ≡ false = fails (is_written path p.number) (λ h.
              let b = both (eqb p.number w.definition.number) (agree_to depth (path_of w) (levels path)) h in
              absurd (other (place.found (eqb-true p.number w.definition.number b.0) b.1))) in
              stored_outside body w.offset values a 0 (⊎_elim (λ b. inl (omega arith)) (λ b. inr b) (away other))
              ∙ sym (becomes_other path p.number (get_or body a 0) t)

    module _ (s t : Scope) (path : List ℕ) (a : ℕ) (around visible : List Point) (p : Point) (sound : SoundPoint around p)
        (resolves : ScaleResolves visible p) (scope_known : (f : Point) → In f visible → In f defined)
        (scopes : Scopes visible path s t) where
      -- The scale point of p is a sunssf point of the definition.
      factor : p.scale_kind ≡ scale_by_point → (f : Point) × (In f defined) × (f.number ≡ p.scale) × (f.type_code ≡ sunssf)
      factor k = let f = resolves k in (f.0, scope_known f.0 f.1, f.2, f.3)

      -- Its register after the write.
      scale_register : p.scale_kind ≡ scale_by_point → t p.scale ≡ becomes path p.scale (s p.scale)
      scale_register k =
          let f = resolves k in
          subst (λ (n : ℕ). t n ≡ becomes path n (s n)) f.2 (scopes f.0 f.1)

      -- The raw value is not too wide.
      narrow : too_wide w.definition.size raw ≡ false
      narrow =
          not-true (too_wide w.definition.size raw)
          (both (is_value (point_class w.definition raw)) (not (too_wide w.definition.size raw)) x.holds).1

      -- If the scale point is the point written, that is a sunssf point,
      written_code : p.scale_kind ≡ scale_by_point → is_written path p.scale ≡ true → w.definition.type_code ≡ sunssf
      written_code k e =
          let f = factor k in
          let number = eqb-true p.scale w.definition.number
          (both (eqb p.scale w.definition.number) (agree_to depth (path_of w) (levels path)) e).0 in
          ap (λ (x : Point). x.type_code) (sym (x.one_point f.0 w.definition f.1 x.known (f.2 ∙ number))) ∙ f.3

      -- and the register is the raw value.
      factor_written : p.scale_kind ≡ scale_by_point → is_written path p.scale ≡ true → t p.scale ≡ raw
      factor_written k e =
          let one : w.definition.size ≡ 1 = types.scale_factor_size w.definition.size (rw (written_code k e) at x.sized) in
          scale_register k
          ∙ becomes_written path p.scale (s p.scale) e
          ∙ first_stored body w.offset values fitting 0 (omega (arith, count, one))
          ∙ ap (λ (n : ℕ). get_or (split n raw) 0 0) one
          ∙ one_register raw (rw one at narrow)

      -- If it is not, its register stays.
      factor_stays : p.scale_kind ≡ scale_by_point → is_written path p.scale ≡ false → t p.scale ≡ s p.scale
      factor_stays k e = scale_register k ∙ becomes_other path p.scale (s p.scale) e

      -- The point p, placed from a.
      module _ (place : Place top w (point_at body (in_scope s path) a p)) where
        -- It before the write,
        abbrev old : ModelPoint
        old = point_at body (in_scope s path) a p

        -- and after it.
        abbrev after : ModelPoint
        after = point_at new (in_scope t path) a p

        -- A point at another place keeps its registers.
        unchanged : (a ≡ w.offset → ⊥) → (register : ℕ) → (p.scale_kind ≡ scale_by_point → t p.scale ≡ register)
            → after ≡ shown_as path a p (join (registers_at body a p)) (shown_raw (registers_at body a p)) register
        unfolding point_at
        unchanged other register same =
            ap (λ (rs : List ℕ). shown_as path a p (join rs) (shown_raw rs) (t p.scale))
            (part_stays body w.offset values fitting a p.size (away s path a p place other))
            ∙ shown_same path a p (join (registers_at body a p)) (shown_raw (registers_at body a p)) (t p.scale) register same

        -- A point whose scale factor is written is rescaled.
        scaled : (a ≡ w.offset → ⊥) → p.scale_kind ≡ scale_by_point → is_written path p.scale ≡ true → after ≡ rescaled raw old
        unfolding point_at
        scaled other k e =
            let rs = registers_at body a p in
            unchanged other raw (λ _. factor_written k e)
            ∙ ap (λ (x : ℕ). shown_as path a p x (shown_raw rs) raw) (sym (shown rs (types.by_point_few around p sound k body a)))

        -- Any other point stays.
        stays : (a ≡ w.offset → ⊥) → (p.scale_kind ≡ scale_by_point → is_written path p.scale ≡ false) → after ≡ old
        unfolding point_at
        stays other unscaled = unchanged other (s p.scale) (λ k. factor_stays k (unscaled k))

        -- At the place of the point written, p is that point.
        same_point : a ≡ w.offset → p ≡ w.definition
        unfolding point_at
        same_point here = ap (λ (x : ModelPoint). x.definition) (place.same here)

        -- Its registers are then those written.
        holding : a ≡ w.offset → registers_at new a p ≡ values
        holding here =
            let size : p.size ≡ length values = ap (λ (x : Point). x.size) (same_point here) ∙ sym count in
            ap (λ (n : ℕ). take n (drop a new)) size
            ∙ ap (λ (i : ℕ). take (length values) (drop i new)) here
            ∙ run_stored body w.offset values fitting

        -- It is not its own scale factor.
        own_factor : a ≡ w.offset → p.scale_kind ≡ scale_by_point → t p.scale ≡ s p.scale
        own_factor here k =
            factor_stays k (fails (is_written path p.scale) (λ e.
            let code = ap (λ (x : Point). x.type_code) (same_point here) ∙ written_code k e in
            sym (types.by_point_may around p sound k) ∙ ap may_scale code ∙ types.scale_factor_unscaled))

        -- What it held was implemented,
        was_implemented : a ≡ w.offset → is_unimplemented_class (point_class p (join (registers_at body a p))) ≡ false
        unfolding point_at
        was_implemented here =
            let point = same_point here in
            let shown_old : shown_raw (registers_at body a p) ≡ w.raw = ap (λ (x : ModelPoint). x.raw) (place.same here) in
            let size = ap (λ (x : Point). x.size) point in
            let few : length (registers_at body a p) ≤ 4 = omega (arith, length-take p.size (drop a body), size, x.small) in
            ap (λ (x : Point). is_unimplemented_class (point_class x (join (registers_at body a p)))) point
            ∙ ap (λ (x : ℕ). is_unimplemented_class (point_class w.definition x))
            (sym (shown (registers_at body a p) few) ∙ shown_old)
            ∙ x.implemented

        -- and what it holds is a value.
        now_value : a ≡ w.offset → point_class p (join (registers_at new a p)) ≡ of_class value
        now_value here =
            ap (λ (x : Point). point_class x (join (registers_at new a p))) (same_point here)
            ∙ ap (point_class w.definition) (ap join (holding here) ∙ join_split w.definition.size raw narrow)
            ∙ value_class (point_class w.definition raw)
            (both (is_value (point_class w.definition raw)) (not (too_wide w.definition.size raw)) x.holds).0

        -- So the point written holds the raw value.
        written : a ≡ w.offset → Holds raw old after
        unfolding point_at
        written here =
            let few : length (registers_at new a p) ≤ 4 = omega (arith, ap length (holding here), count, x.small) in
            let r = s p.scale in
            let r' = t p.scale in
            let now : after.status ≡ status_of p (of_class value) r' = ap (λ c. status_of p c r') (now_value here) in
            let grade = subst (λ (x : ℕ). status.OfValue x) (sym now) (status.value_status p r') in
            let kept : (old.status ≡ 5 → ⊥) → after.status ≡ old.status = λ f.
            let was = status.was_value p (point_class p (join (registers_at body a p))) r (was_implemented here) f in
            now ∙ same_status_lem p r' r (own_factor here) (of_class value) ∙ sym (ap (λ c. status_of p c r) was) in
            record {
              place = record { offset = refl; definition = refl; level2 = refl; level3 = refl; level4 = refl };
              holds = shown (registers_at new a p) few ∙ ap join (holding here) ∙ join_split w.definition.size raw narrow;
              register = r';
              status = now;
              scale = refl;
              implemented = grade.not_optional;
              mandatory = grade.not_mandatory;
              in_range = grade.in_range;
              same_status = kept;
              same_scale = λ f.
                  ap (λ (x : ℕ). scale_of p x r') (kept f) ∙ same_scale_lem p r' r (own_factor here) old.status;
            }

        -- How the point changes, in each of these cases.
        pub point_after_lem : PointAfter top w raw old after
        unfolding point_at
        point_after_lem = go (eqb a w.offset) refl (eqb p.scale_kind scale_by_point) refl (is_written path p.scale) refl
          where
            Becomes : Bool → Bool → Type 0
            Becomes b k =
                elim b [
                  | true ↦ Holds raw old after
                  | false ↦ elim k [ true ↦ after ≡ rescaled raw old | false ↦ after ≡ old ]
                ]

            go : (b : Bool) → eqb a w.offset ≡ b → (k : Bool) → eqb p.scale_kind scale_by_point ≡ k
                → (i : Bool) → is_written path p.scale ≡ i → Becomes b (k && i)
            go true e k f i g = written (eqb-true a w.offset e)
            go false e true f true g = scaled (eqb-false a w.offset e) (eqb-true p.scale_kind scale_by_point f) g
            go false e true f false g = stays (eqb-false a w.offset e) (λ _. g)
            go false e false f i g =
                stays (eqb-false a w.offset e) (λ q. absurd (eqb-false p.scale_kind scale_by_point f q))
