-- Reading a decimal text back as a number: the claim of exactness is stated with this.
use Rattle.std.specs.Prelude.{◌≡◌, Bool, true, false, ◌&&◌, List, [], ◌∷◌, ℕ, ◌+◌, ◌-◌, ◌*◌, ◌≤◌, eqb, leb, ℤ, pos, neg_ℤ, length}
use Rattle.std.proofs.Math.Option.{Option, none, some}
use Rattle.point_types.specs.Presence.{Presence}
use Rattle.values.specs.Unscaled.{number, unscaled}
use Rattle.display.specs.Amounts.{Fraction, fraction_of}
use Rattle.display.specs.Decimals.{minus_sign, decimal_point, digit_zero}

-- Is a byte one of the digits 0 to 9?
abbrev pub is_digit : ℕ → Bool
is_digit byte = leb digit_zero byte && leb byte (digit_zero + 9)

-- The number n with one more digit appended: n × 10 plus the digit.
abbrev pub with_digit : ℕ → ℕ → ℕ
with_digit n byte = n * 10 + (byte - digit_zero)

-- Reads the digits after the decimal point, with numerator n and denominator d so far: each digit is appended to n and multiplies d
-- by 10. None if a byte is no digit.
unfoldable pub read_places : ℕ → ℕ → List ℕ → Option (ℕ × ℕ)
read_places n d [] = some (n, d)
read_places n d (b ∷ bs) = elim (is_digit b) [ true ↦ read_places (with_digit n b) (d * 10) bs | false ↦ none ]

-- Reads the digits before the decimal point, with the number n so far.
unfoldable pub read_whole : ℕ → List ℕ → Option (ℕ × ℕ)
read_whole n [] = some (n, 1)
read_whole n (b ∷ bs) =
    elim (is_digit b) [
      | true ↦ read_whole (with_digit n b) bs
      | false ↦ elim (eqb b decimal_point) [ true ↦ read_places n 1 bs | false ↦ none ]
    ]

-- Reads a number without a sign. It begins with a digit.
unfoldable pub read_unsigned : List ℕ → Option (ℕ × ℕ)
read_unsigned [] = none
read_unsigned (b ∷ bs) = elim (is_digit b) [ true ↦ read_whole 0 (b ∷ bs) | false ↦ none ]

-- The fraction with a sign applied to its numerator.
abbrev pub signed : (ℕ → ℤ) → Option (ℕ × ℕ) → Option Fraction
signed sign none = none
signed sign (some (n, d)) = some (record { numerator = sign n; denominator = d })

-- Reads a number with or without a minus.
unfoldable pub read_decimal : List ℕ → Option Fraction
read_decimal [] = none
read_decimal (b ∷ bs) =
    elim (eqb b minus_sign) [ true ↦ signed (λ n. neg_ℤ (pos n)) (read_unsigned bs) | false ↦ signed pos (read_unsigned (b ∷ bs)) ]

-- The claim for a text that `decimal` writes: it reads back as value × 10 ^ scale, and has at most 30 bytes.
pub record Exact (code : ℕ) (presence : Presence) (raw : ℕ) (scale : ℤ) (t : List ℕ) : Type 0 where
  pub value : ℤ
  pub is : unscaled code presence raw ≡ number value
  pub reads_back : read_decimal t ≡ some (fraction_of value scale)
  pub thirty : length t ≤ 30
