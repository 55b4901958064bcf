-- Internal: amounts by parts, as the code represents them, and stored texts; no public contract cites this file.
use Rattle.std.specs.Prelude.{◌≡◌, Bool, ◌&&◌, List, ◌++◌, ℕ, ◌+◌, ◌*◌, ◌^◌, ◌≤◌, eqb, ℤ, length}
use Rattle.std.specs.Bool.{beq}
use Rattle.std.specs.Borrow.{MutBor}
use Rattle.std.proofs.lemmas.List.Edits.{sets}
use Rattle.values.specs.CodeTypes.{to_code_integer}
use Rattle.display.specs.Amounts as Amounts
use Rattle.display.specs.Amounts.{zeros, places}
use Rattle.display.specs.Decimals.{sign, unsigned_text}
use Rattle.display.specs.declared.decimals.Text.{Text}
use Rattle.display.specs.declared.quantities.ScaledNumber.{ScaledNumber}

-- An amount's integer, and its scale factor as the exponent. Zero is never negative.
abbrev pub to_code_parts : ℤ → ℤ → ScaledNumber
to_code_parts value scale = record { integer = to_code_integer value; exponent = scale }

-- The amount is a value and a scale factor, and these are its parts.
pub record IsAmount (a : Amounts.Amount) (parts : ScaledNumber) : Type 0 where
  pub value : ℤ
  pub scale : ℤ
  pub is : a ≡ Amounts.amount value scale
  pub form : parts ≡ to_code_parts value scale

-- At most ten zeros and ten places.
pub record TenAtMost (exponent : ℤ) : Type 0 where
  pub zeros_bound : zeros exponent ≤ 10
  pub places_bound : places exponent ≤ 10

-- The text of an amount.
abbrev pub parts_text : ScaledNumber → List ℕ
parts_text a = sign a.integer.negative ++ unsigned_text (a.integer.magnitude * 10 ^ zeros a.exponent) (places a.exponent)

-- The same sign, and the same magnitude after each is multiplied by the other's denominator. (Zero is never negative: `to_code_parts`.)
unfoldable pub is_same_by_parts : ScaledNumber → ScaledNumber → Bool
is_same_by_parts a b =
    beq a.integer.negative b.integer.negative
    && eqb (a.integer.magnitude * 10 ^ (zeros a.exponent + places b.exponent)) (b.integer.magnitude * 10 ^ (zeros b.exponent + places a.exponent))

-- The text was stored in a buffer at `position`, and `end` is the position after it.
pub record Put (before after : List ℕ) (position : ℕ) (text : List ℕ) (end : ℕ) : Type 0 where
  pub stored : after ≡ sets before position text
  pub ends : end ≡ position + length text

-- The text was appended to a lent buffer: it was stored at `position`, and `end` is the position after it.
pub record Appended (before after : MutBor (List ℕ)) (position : ℕ) (text : List ℕ) (end : ℕ) : Type 0 where
  pub same_reference : after.ghost_name ≡ before.ghost_name
  pub put : Put before.now after.now position text end
  pub same_capacity : length after.now ≡ length before.now

-- The buffer has room for n bytes more.
abbrev pub HasRoom : Text → ℕ → Type 0
HasRoom t n = t.length + n ≤ length t.out.now

-- A text was appended to another.
abbrev pub Added : Text → Text → List ℕ → Type 0
Added before after bytes = Appended before.out after.out before.length bytes after.length
