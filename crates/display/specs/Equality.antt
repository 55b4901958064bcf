-- Document 01, "Worth": whether two quantities are the same amount.
use Rattle.std.specs.Prelude.{◌≡◌, Bool, true, false, ℕ, eqb, ℤ, pos, negsuc, ◌*ℤ◌}
use Rattle.display.specs.Amounts.{Amount, amount, Fraction, fraction_of}

-- Are two integers equal?
abbrev pub is_same_integer : ℤ → ℤ → Bool
is_same_integer (pos a) (pos b) = eqb a b
is_same_integer (pos a) (negsuc b) = false
is_same_integer (negsuc a) (pos b) = false
is_same_integer (negsuc a) (negsuc b) = eqb a b

-- Are two fractions the same number? Cross-multiplied, over the integers.
abbrev pub is_same_fraction : Fraction → Fraction → Bool
is_same_fraction p q = is_same_integer (p.numerator *ℤ pos q.denominator) (q.numerator *ℤ pos p.denominator)

-- The results: yes, no, or a refusal by its number and place.
pub data Equality : Type 0 where
  equal different : Equality
  refused : (number place : ℕ) → Equality

-- Yes if the test is true.
abbrev pub equal_if : Bool → Equality
equal_if true = equal
equal_if false = different

-- The result for two amounts: the refusal of the first, then that of the second, else whether value × 10 ^ scale is equal.
unfoldable pub equality : Amount → Amount → Equality
equality (Amount.refused n place) b = Equality.refused n place
equality (amount value scale) (Amount.refused n place) = Equality.refused n place
equality (amount v s) (amount w t) = equal_if (is_same_fraction (fraction_of v s) (fraction_of w t))

-- The amount is no refusal.
abbrev pub Accepted : Amount → Type 0
Accepted (amount value scale) = Unit {0}
Accepted (Amount.refused n place) = ⊥

-- Two fractions are the same number: their cross-multiplied integers are equal.
abbrev pub SameNumber : Fraction → Fraction → Type 0
SameNumber p q = p.numerator *ℤ pos q.denominator ≡ q.numerator *ℤ pos p.denominator
