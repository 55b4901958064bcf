-- The code's 64-bit arithmetic computes two's complement at every width from 1 to 64 bits.
use mathlib.Core.Path.{◌≡◌, refl, sym, ap, ◌∙◌}
use Prim.Native.Nat.{ℕ, zero, suc, ◌+◌, ◌-◌, ◌/◌, ◌^◌, ◌≤◌, ◌<◌}
use native.Mathlib.Nat.{pow-suc, zero-add}
use native.Mathlib.Omega.{arith}
use lib.IntN.{pos, negsuc, ◌-ℤ◌}
use lib.Pow.{pow_pos, pow_mono}
use mir.Syntax.{w64}
use mir.Val.{to_z, of_z, SFits}
use mir.Facts.{to_z_pos, to_z-of_z}
use Rattle.values.specs.Classes.{twos_complement}
use Rattle.values.proofs.TwosComplement.{lower_half, upper_half}

-- 2 ^ bits is twice 2 ^ (bits - 1).
pub halves : (bits : ℕ) → 1 ≤ bits → 2 ^ bits ≡ 2 ^ (bits - 1) + 2 ^ (bits - 1)
halves zero h = absurd (omega arith)
halves (suc k) h = let e : suc k - 1 ≡ k = omega arith in rw e (omega (arith, pow-suc 2 k))

minus_one_less : (x : ℕ) → negsuc 0 -ℤ pos x ≡ negsuc x
minus_one_less zero = refl
minus_one_less (suc n) = rw (zero-add n)

module _ (bits raw ones : ℕ) (low : 1 ≤ bits) (high : bits ≤ 64) (is : ones ≡ 2 ^ bits - 1) where
  half_fits : 2 ^ (bits - 1) ≤ 2 ^ 63
  half_fits = pow_mono {i = bits - 1} {j = 63} (omega arith)

  pub lower_pattern : raw ≤ ones / 2 → to_z w64 raw ≡ twos_complement bits raw
  lower_pattern h =
      let l : raw < 2 ^ (bits - 1) = omega (arith, halves bits low, pow_pos (bits - 1)) in
      to_z_pos w64 (omega (arith, half_fits)) ∙ sym (lower_half bits raw l)

  module _ (above : ones / 2 < raw) (fits : raw < 2 ^ bits) where
    machine : negsuc 0 -ℤ to_z w64 (ones - raw) ≡ negsuc (ones - raw)
    machine = rw (to_z_pos w64 {n = ones - raw} (omega (arith, half_fits, halves bits low))) (minus_one_less (ones - raw))

    pub upper_fits : SFits w64 (negsuc 0 -ℤ to_z w64 (ones - raw))
    upper_fits = rw machine (record { sfits = omega (arith, half_fits, halves bits low) })

    pub upper_pattern : to_z w64 (of_z w64 (negsuc 0 -ℤ to_z w64 (ones - raw))) ≡ twos_complement bits raw
    upper_pattern =
        let h : 2 ^ (bits - 1) ≤ raw = omega (arith, halves bits low) in
        let e : ones - raw ≡ 2 ^ bits - suc raw = omega arith in
        to_z-of_z upper_fits ∙ machine ∙ ap negsuc e ∙ sym (upper_half bits raw h fits)
