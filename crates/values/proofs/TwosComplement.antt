-- Two's complement by halves: a pattern of the lower half is its own number; one of the upper half is the pattern less 2 ^ bits.
use mathlib.Core.Path.{◌≡◌, refl}
use mathlib.Core.Bool.{true, ◌&&◌}
use Prim.Native.Nat.{ℕ, suc, ◌-◌, ◌^◌, ◌≤◌, ◌<◌}
use native.Mathlib.Omega.{arith}
use native.Mathlib.Decide.{dec_le}
use borrow.Author.Tests.{le-leb, lt-leb}
use lib.Dec.{leb}
use Rattle.std.proofs.lemmas.Int.{ints}
use lib.IntN.{ℤ, pos, negsuc, neg_ℤ, ◌-ℤ◌}
use Rattle.values.specs.Classes.{twos_complement, is_between, is_scale_factor}
use Rattle.values.specs.Encoding.{twos_pattern}

-- x - m, if it is below 0.
pub less : (x m : ℕ) → x < m → pos x -ℤ pos m ≡ negsuc (m - suc x)
less x m h = omega (arith, ints)

module _ (bits raw : ℕ) where
  pub lower_half : raw < 2 ^ (bits - 1) → twos_complement bits raw ≡ pos raw
  unfolding twos_complement
  lower_half h = grind (arith, ints, twos_complement)

  pub upper_half : 2 ^ (bits - 1) ≤ raw → raw < 2 ^ bits → twos_complement bits raw ≡ negsuc (2 ^ bits - suc raw)
  unfolding twos_complement
  upper_half h k = grind (arith, ints, twos_complement)

  -- P holds of the number if it does so in each half.
  pub by_half : (P : ℤ → Type 0) → raw < 2 ^ bits → (raw < 2 ^ (bits - 1) → P (pos raw))
      → (2 ^ (bits - 1) ≤ raw → P (negsuc (2 ^ bits - suc raw))) → P (twos_complement bits raw)
  by_half P k lower upper =
      elim (dec_le (2 ^ (bits - 1)) raw) [
        | yes u ↦ rw (upper_half u k) (upper u)
        | no u ↦ let l : raw < 2 ^ (bits - 1) = omega arith in rw (lower_half l) (lower l)
      ]

  -- The pattern of a pattern's number is that pattern.
  pub pattern_back : raw < 2 ^ bits → twos_pattern bits (twos_complement bits raw) ≡ raw
  pattern_back k = by_half (λ z. twos_pattern bits z ≡ raw) k (λ l. refl) (λ u. omega arith)

-- A register above 10 is a scale factor from -10 to 10 if and only if it is FFF6 or more.
pub scale_factor_tail : (raw : ℕ) → 10 < raw → raw < 65536 → leb 0xFFF6 raw ≡ is_scale_factor (twos_complement 16 raw)
scale_factor_tail raw h k = by_half 16 raw (λ z. leb 0xFFF6 raw ≡ is_between (neg_ℤ (pos 10)) (pos 10) z) k down (λ u. up (dec_le 0xFFF6 raw))
  where
    down : raw < 32768 → leb 0xFFF6 raw ≡ leb raw 10
    down l = rw (lt-leb 0xFFF6 raw (omega arith), lt-leb raw 10 h)

    up : Dec (0xFFF6 ≤ raw) → leb 0xFFF6 raw ≡ (leb (65536 - suc raw) 9 && true)
    up (yes a) = rw (le-leb 0xFFF6 raw a, le-leb (65536 - suc raw) 9 (omega arith))
    up (no a) = rw (lt-leb 0xFFF6 raw (omega arith), lt-leb (65536 - suc raw) 9 (omega arith))
