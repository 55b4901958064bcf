-- Every integer that a scale factor may multiply is from -2 ^ 63 to 2 ^ 64 - 1.
use mathlib.Core.Path.{◌≡◌, refl, subst}
use mathlib.Core.Bool.{Bool, true, false}
use mathlib.Core.Option.{Option, none, some}
use Prim.Native.Nat.{ℕ, ◌-◌, ◌^◌, ◌≤◌, ◌<◌}
use native.Mathlib.Omega.{arith}
use lib.IntN.{ℤ}
use lib.Pow.{pow_mono}
use Rattle.point_types.specs.Presence.{Presence}
use Rattle.point_types.specs.Rows.{TypeRow, signed, row_of, Listed}
use Rattle.point_types.proofs.Table.{scalable_width, signed_width, listed}
use Rattle.values.specs.Classes.{width, twos_complement, integer, is_value, classified}
use Rattle.values.specs.Unscaled.{Unscaled, number, no_value, not_scalable, unscaled, Within64}
use Rattle.values.proofs.UnscaledCases.{value_fits}
use Rattle.values.proofs.TwosComplement.{by_half}
use Rattle.values.proofs.MachineIntegers.{halves}

module _ (row : TypeRow) (l : Listed row) (four : row.most ≤ 4) (raw : ℕ) (fits : raw < 2 ^ width row) where
  within : raw < 2 ^ 64
  within = omega (arith, pow_mono {i = width row} {j = 64} (omega arith))

  signed_within : row.kind ≡ signed → Within64 (twos_complement (width row) raw)
  signed_within k =
      let w = signed_width row l k in
      let e = halves (width row) (omega arith) in
      let h = pow_mono {i = width row - 1} {j = 63} (omega arith) in
      by_half (width row) raw Within64 fits (λ u. within) (λ u. omega (arith, e, h))

  integer_within : Within64 (integer row raw)
  unfolding integer
  integer_within = grind (arith, integer, within, signed_within)

-- P holds of the unscaled integer, if there is one.
abbrev Holds : (ℤ → Type 0) → Unscaled → Type 0
Holds P (number z) = P z
Holds P no_value = Unit {0}
Holds P not_scalable = Unit {0}

module _ (code : ℕ) (presence : Presence) (raw : ℕ) where
  all_within : Holds Within64 (unscaled code presence raw)
  unfolding unscaled
  all_within = by_found (row_of code) refl
    where
      by_class : (row : TypeRow) → row_of code ≡ some row → row.scalable ≡ true → (b : Bool) → is_value (classified code presence raw) ≡ b
          → Holds Within64 (elim b [ true ↦ number (integer row raw) | false ↦ no_value ])
      by_class row e s true v =
          integer_within row (listed code row e) (scalable_width row (listed code row e) s) raw (value_fits code presence raw row e v)
      by_class row e s false v = tt

      by_scale : (row : TypeRow) → row_of code ≡ some row → (b : Bool) → row.scalable ≡ b
          → Holds Within64
          (elim b [
            | false ↦ not_scalable
            | true ↦ elim (is_value (classified code presence raw)) [ true ↦ number (integer row raw) | false ↦ no_value ]
          ])
      by_scale row e false s = tt
      by_scale row e true s = by_class row e s (is_value (classified code presence raw)) refl

      by_found : (o : Option TypeRow) → row_of code ≡ o
          → Holds Within64
          (elim o [
            | none ↦ not_scalable
            | some row ↦ elim row.scalable [
              | false ↦ not_scalable
              | true ↦ elim (is_value (classified code presence raw)) [ true ↦ number (integer row raw) | false ↦ no_value ]
            ]
          ])
      by_found none e = tt
      by_found (some row) e = by_scale row e row.scalable refl

  -- The claim.
  pub unscaled_range : (z : ℤ) → unscaled code presence raw ≡ number z → Within64 z
  unscaled_range z e = subst (Holds Within64) e all_within
