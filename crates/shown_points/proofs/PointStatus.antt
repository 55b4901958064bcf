-- The status and the scale of a point, case by case.
use mathlib.Core.Path.{◌≡◌}
use Prim.Native.Nat.{ℕ}
use native.Mathlib.Omega.{arith}
use borrow.Author.Tests.{eq-eqb, ne_eqb}
use Rattle.values.specs.Classes.{value, of_class}
use Rattle.catalog_frames.specs.Frames.{Point, fixed_scale, scale_by_point}
use Rattle.layout.specs.Points.{scale_class, scale_status, status_of, scale_of}

module _ (p : Point) (register : ℕ) where
  -- A value without a scale point.
  pub value_alone : (p.scale_kind ≡ scale_by_point → ⊥) → status_of p (of_class value) register ≡ 0
  value_alone n = simp (status_of, ne_eqb p.scale_kind scale_by_point n)

  -- A value with a scale point.
  pub value_scaled : p.scale_kind ≡ scale_by_point → status_of p (of_class value) register ≡ scale_status (scale_class register)
  value_scaled e = simp (status_of, eq-eqb p.scale_kind scale_by_point e)

  -- Where the status is not 0, the scale is 0.
  pub no_value : (status : ℕ) → (status ≡ 0 → ⊥) → scale_of p status register ≡ 0
  no_value status n = simp (scale_of, ne_eqb status 0 n)

  -- Where the status is 0, the scale is by the scale kind.
  pub scale_fixed : (status : ℕ) → status ≡ 0 → p.scale_kind ≡ fixed_scale → scale_of p status register ≡ p.scale
  scale_fixed status s e = simp (scale_of, eq-eqb status 0 s, eq-eqb p.scale_kind fixed_scale e)

  pub scale_by_point_lem : (status : ℕ) → status ≡ 0 → p.scale_kind ≡ scale_by_point → scale_of p status register ≡ register
  scale_by_point_lem status s e =
      let other : p.scale_kind ≡ fixed_scale → ⊥ = λ q. omega (arith, e, q) in
      simp (scale_of, eq-eqb status 0 s, ne_eqb p.scale_kind fixed_scale other, eq-eqb p.scale_kind scale_by_point e)

  pub no_scale_lem : (status : ℕ) → status ≡ 0 → (p.scale_kind ≡ fixed_scale → ⊥) → (p.scale_kind ≡ scale_by_point → ⊥)
      → scale_of p status register ≡ 0
  no_scale_lem status s n m =
      simp (scale_of, eq-eqb status 0 s, ne_eqb p.scale_kind fixed_scale n, ne_eqb p.scale_kind scale_by_point m)
