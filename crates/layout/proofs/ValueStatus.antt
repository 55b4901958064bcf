-- The status of a value; and the class and status of points by their presence (change request 2).
use mathlib.Core.Path.{◌≡◌, refl, sym, ap, ◌∙◌}
use mathlib.Core.Bool.{Bool, true, false, not, ◌&&◌}
use mathlib.Core.Logic.{inl, inr}
use Prim.Native.Nat.{ℕ}
use native.Mathlib.Omega.{arith}
use borrow.Author.Tests.{eq-eqb, ne_eqb}
use lib.Dec.{eqb}
use Rattle.lists.proofs.TestOutcomes.{clash}
use Rattle.point_types.specs.Presence.{Presence, mandatory, optional, presence_of}
use Rattle.point_types.specs.Rows.{AccumulatorCode}
use Rattle.values.specs.Classes.{value, unimplemented, out_of_range, Classified, of_class, too_wide, unknown_type, classified, is_unimplemented_class}
use Rattle.values.specs.PresenceDecides.{CountsZero, classified_before}
use Rattle.values.proofs.PresenceDecides.{presence_decides, never_unimplemented, as_before}
use Rattle.catalog_frames.specs.Frames.{Point, scale_by_point, sunssf}
use Rattle.layout.specs.Points.{point_class, scale_class, scale_status, unimplemented_status, status_of}

-- ---- Classes

-- A point that is implemented, and not out of range by its status, has a value.
pub was_value : (p : Point) (c : Classified) (register : ℕ) → is_unimplemented_class c ≡ false → (status_of p c register ≡ 5 → ⊥)
    → c ≡ of_class value
was_value p (of_class value) register e f = refl
was_value p (of_class unimplemented) register e f = clash e
was_value p (of_class out_of_range) register e f = absurd (f refl)
was_value p too_wide register e f = absurd (f refl)
was_value p unknown_type register e f = absurd (f refl)

-- ---- Status and scale

-- The statuses of values: not unimplemented, and not out of range.
pub record OfValue (status : ℕ) : Type 0 where
  pub not_optional : status ≡ 1 → ⊥
  pub not_mandatory : status ≡ 2 → ⊥
  pub in_range : status ≡ 5 → ⊥

-- The test for these statuses,
abbrev is_of_value : ℕ → Bool
is_of_value status = not (eqb status 1) && (not (eqb status 2) && not (eqb status 5))

-- and a status that passes it.
of_value : (status : ℕ) → is_of_value status ≡ true → OfValue status
of_value status t =
    let fails : (other : ℕ) → is_of_value other ≡ false → status ≡ other → ⊥ = λ other f e.
    clash (sym t ∙ ap is_of_value e ∙ f) in
    record { not_optional = fails 1 refl; not_mandatory = fails 2 refl; in_range = fails 5 refl }

-- The statuses that a scale factor gives are such,
scale_status_lem : (c : Classified) → OfValue (scale_status c)
scale_status_lem (of_class value) = of_value 0 refl
scale_status_lem (of_class unimplemented) = of_value 3 refl
scale_status_lem (of_class out_of_range) = of_value 4 refl
scale_status_lem too_wide = of_value 4 refl
scale_status_lem unknown_type = of_value 4 refl

-- and so is the status of a value.
pub value_status : (p : Point) (register : ℕ) → OfValue (status_of p (of_class value) register)
value_status p register = go (eqb p.scale_kind scale_by_point)
  where
    go : (b : Bool) → OfValue (elim b [ true ↦ scale_status (scale_class register) | false ↦ 0 ])
    go true = scale_status_lem (scale_class register)
    go false = of_value 0 refl

-- ---- The presence

-- The class of a raw value of a point is as it was before change request 2, unless the point is a mandatory accumulator at 0.
pub point_as_before : (p : Point) (raw : ℕ) → (presence_of p.mandatory ≡ mandatory → CountsZero p.type_code raw → ⊥)
    → point_class p raw ≡ classified_before p.type_code raw
point_as_before p raw n = as_before p.type_code (presence_of p.mandatory) raw n

-- The class of a scale point does not depend on its presence, so `scale_class` need not ask.
pub any_scale_presence : (presence : Presence) (register : ℕ) → classified sunssf presence register ≡ scale_class register
any_scale_presence optional register = refl
any_scale_presence mandatory register = (presence_decides sunssf register).elsewhere (λ z. no_accumulator z.0)
  where
    no_accumulator : AccumulatorCode sunssf → ⊥
    no_accumulator (inl e) = omega (arith, e)
    no_accumulator (inr (inl e)) = omega (arith, e)
    no_accumulator (inr (inr e)) = omega (arith, e)

-- The status of a point that is not unimplemented is neither 1 nor 2.
pub implemented_status : (p : Point) (register : ℕ) (c : Classified) → (c ≡ of_class unimplemented → ⊥)
    → (status_of p c register ≡ 1 → ⊥) × (status_of p c register ≡ 2 → ⊥)
implemented_status p register (of_class value) n = let v = value_status p register in (v.not_optional, v.not_mandatory)
implemented_status p register (of_class unimplemented) n = absurd (n refl)
implemented_status p register (of_class out_of_range) n = (λ e. omega arith, λ e. omega arith)
implemented_status p register too_wide n = (λ e. omega arith, λ e. omega arith)
implemented_status p register unknown_type n = (λ e. omega arith, λ e. omega arith)

module _ (p : Point) (a : AccumulatorCode p.type_code) (register : ℕ) where
  -- The class of a raw value of a mandatory point.
  mandatory_class : p.mandatory ≡ 1 → (raw : ℕ) → point_class p raw ≡ classified p.type_code mandatory raw
  mandatory_class e raw = simp (presence_of, eq-eqb p.mandatory 1 e)

  -- At 0 a mandatory accumulator has the status of a value, by its scale point,
  pub mandatory_at_0 : p.mandatory ≡ 1 → status_of p (point_class p 0) register ≡ status_of p (of_class value) register
  mandatory_at_0 e =
      ap (λ (c : Classified). status_of p c register) (mandatory_class e 0 ∙ (presence_decides p.type_code 0).mandatory_zero (a, refl))

  -- and an optional one has status 1.
  pub optional_at_0 : (p.mandatory ≡ 1 → ⊥) → status_of p (point_class p 0) register ≡ 1
  optional_at_0 n =
      let other : presence_of p.mandatory ≡ optional = simp (presence_of, ne_eqb p.mandatory 1 n) in
      ap (λ (c : Classified). status_of p c register)
      (ap (λ (o : Presence). classified p.type_code o 0) other ∙ (presence_decides p.type_code 0).optional_zero (a, refl))
      ∙ ap unimplemented_status other

  -- A mandatory one never has the status of an unimplemented point, whatever its raw value.
  pub never_missing : p.mandatory ≡ 1 → (raw : ℕ)
      → (status_of p (point_class p raw) register ≡ 1 → ⊥) × (status_of p (point_class p raw) register ≡ 2 → ⊥)
  never_missing e raw =
      implemented_status p register (point_class p raw) (λ q. never_unimplemented p.type_code raw a (sym (mandatory_class e raw) ∙ q))
