-- What the code's types stand for: the arguments and results of the public calls in document 01's terms.
use Rattle.std.specs.Prelude.{Bool, List, ◌++◌, ℕ, ◌-◌, ℤ, length, replicate, Result, Ok, Err}
use Rattle.refusals.specs.Refusals.{number}
use Rattle.refusals.specs.declared.Refusal.{Refusal}
use Rattle.point_types.specs.Presence.{Presence}
use Rattle.point_types.specs.CodeTypes.{to_spec_presence}
use Rattle.values.specs.Classes.{twos_complement}
use Rattle.display.specs.Amounts as Amounts
use Rattle.display.specs.Decimals as Decimals
use Rattle.display.specs.Equality as Equality
use Rattle.display.specs.declared.Digits.{Digits}
use Rattle.display.specs.declared.Quantity.{Quantity}

-- The scale factor in a register: two's complement.
abbrev pub scale_factor : ℕ → ℤ
scale_factor register = twos_complement 16 register

-- The amount of a quantity, or its refusal.
abbrev pub quantity_amount : Quantity → Amounts.Amount
quantity_amount q = Amounts.amount_of q.type_code (to_spec_presence q.presence) q.raw (scale_factor q.scale)

-- The text or refusal of a call of `decimal`: its scale factor is a register, and its capacity is the buffer's length.
abbrev pub decimal_into : ℕ → Presence → ℕ → ℕ → List ℕ → Decimals.Decimal
decimal_into code presence raw scale buffer = Decimals.decimal_of code presence raw (scale_factor scale) (length buffer)

-- The result of `decimal`: the length of the text, or a refusal by its number and place.
pub data Length : Type 0 where
  bytes : ℕ → Length
  refused : (number place : ℕ) → Length

-- The length of a text, or the refusal.
abbrev pub length_of : Decimals.Decimal → Length
length_of (Decimals.text t) = bytes (length t)
length_of (Decimals.Decimal.refused n place) = Length.refused n place

-- The code's result of `decimal`. A refusal is at place 0.
abbrev pub to_spec_decimal : Result ℕ Refusal → Length
to_spec_decimal (Ok n) = bytes n
to_spec_decimal (Err refusal) = Length.refused (number refusal) 0

-- The result of `digits_of`: the digits, followed by zero bytes, and the number of digits.
abbrev pub to_code_digits : ℕ → Digits
to_code_digits n =
    record {
      bytes = Decimals.digits_of n ++ replicate (20 - Decimals.digit_count n) 0;
      count = Decimals.digit_count n;
    }

-- The result of `equal_quantities`. A refusal is at place 0.
abbrev pub to_spec_equality : Result Bool Refusal → Equality.Equality
to_spec_equality (Ok same) = Equality.equal_if same
to_spec_equality (Err refusal) = Equality.Equality.refused (number refusal) 0
