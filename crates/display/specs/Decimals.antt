-- Document 01, "Decimal": an amount as text, exact. Text is a list of ASCII codes.
use Rattle.std.specs.Prelude.{Bool, true, false, not, List, [], ◌∷◌, ◌++◌, ℕ, zero, suc, ◌+◌, ◌*◌, ◌/◌, ◌%◌, ◌^◌, ◌<◌, ltb, ℤ, nat_abs, length, drop}
use Rattle.std.specs.Int.Signed.{non_neg}
use Rattle.point_types.specs.Presence.{Presence}
use Rattle.display.specs.Amounts.{Amount, amount, amount_of, zeros, places}

-- The bytes of a text: the minus, the decimal point and the digits (48 is 0).
abbrev pub minus_sign : ℕ
minus_sign = 45

abbrev pub decimal_point : ℕ
decimal_point = 46

abbrev pub digit_zero : ℕ
digit_zero = 48

-- The digit of n at a position, counted from 0 at the last digit.
abbrev pub digit_at : ℕ → ℕ → ℕ
digit_at n position = digit_zero + (n / 10 ^ position) % 10

-- The last k digits of n, leading zeros kept.
unfoldable pub last_digits : ℕ → ℕ → List ℕ
last_digits zero n = []
last_digits (suc k) n = digit_at n k ∷ last_digits k n

-- The number of digits of n: one if n is under ten, else one more than that of n / 10. (`steps` bounds the recursion; n steps are
-- always enough: proofs/DigitCount.antt.)
unfoldable pub digit_count_within : ℕ → ℕ → ℕ
digit_count_within zero n = 1
digit_count_within (suc steps) n = elim (ltb n 10) [ true ↦ 1 | false ↦ suc (digit_count_within steps (n / 10)) ]

-- The number of digits of n.
abbrev pub digit_count : ℕ → ℕ
digit_count n = digit_count_within n n

-- The digits of n: no leading zero, but one digit for zero.
abbrev pub digits_of : ℕ → List ℕ
digits_of n = last_digits (digit_count n) n

-- The list has a first digit, and it is not 0.
abbrev pub NotZeroFirst : List ℕ → Type 0
NotZeroFirst [] = ⊥
NotZeroFirst (d ∷ ds) = digit_zero < d

-- A minus below 0, and no plus.
abbrev pub sign : Bool → List ℕ
sign true = minus_sign ∷ []
sign false = []

-- The decimal point and the last k digits of n, or nothing if k is 0.
abbrev pub decimal_places : ℕ → ℕ → List ℕ
decimal_places zero n = []
decimal_places (suc k) n = decimal_point ∷ last_digits (suc k) n

-- n / 10 ^ places, exact: the whole part, which has a digit even if it is 0, and `places` digits after the decimal point.
unfoldable pub unsigned_text : ℕ → ℕ → List ℕ
unsigned_text n places = digits_of (n / 10 ^ places) ++ decimal_places places n

-- value × 10 ^ scale as text: a minus below 0, then the magnitude with the zeros or the places of the scale factor.
abbrev pub decimal_text : ℤ → ℤ → List ℕ
decimal_text value scale = sign (not (non_neg value)) ++ unsigned_text (nat_abs value * 10 ^ zeros scale) (places scale)

-- What a buffer gets: a text; or nothing, and a refusal by its number and place.
pub data Decimal : Type 0 where
  text : List ℕ → Decimal
  refused : (number place : ℕ) → Decimal

-- 43–45 as for the amount; 46: the buffer has under 32 bytes (place 0).
unfoldable pub decimal_of : ℕ → Presence → ℕ → ℤ → ℕ → Decimal
decimal_of code presence raw scale buffer_length =
    elim (amount_of code presence raw scale) [
      | Amount.refused n place ↦ Decimal.refused n place
      | amount value s ↦ elim (ltb buffer_length 32) [ true ↦ Decimal.refused 46 0 | false ↦ text (decimal_text value s) ]
    ]

-- The buffer afterwards: the text at its start and the later bytes as they were; on a refusal all of it as it was.
abbrev pub stored : Decimal → List ℕ → List ℕ
stored (text t) buffer = t ++ drop (length t) buffer
stored (Decimal.refused n place) buffer = buffer
