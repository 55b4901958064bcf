-- What two's complement is: the claim about decoded signed numbers is stated with this.
use Rattle.std.specs.Prelude.{◌≡◌, ◌⊎◌, ℕ, ◌-◌, ◌^◌, ℤ, pos, neg_ℤ, ◌+ℤ◌, ◌≤ℤ◌, ◌<ℤ◌}

-- z is the two's complement of a raw value of `width` bits: from -2 ^ (width - 1) to 2 ^ (width - 1) - 1, and the raw value or 2 ^ width
-- less.
pub record TwosComplementOf (width raw : ℕ) (z : ℤ) : Type 0 where
  pub low : neg_ℤ (pos (2 ^ (width - 1))) ≤ℤ z
  pub high : z <ℤ pos (2 ^ (width - 1))
  pub same : (z ≡ pos raw) ⊎ (z +ℤ pos (2 ^ width) ≡ pos raw)
