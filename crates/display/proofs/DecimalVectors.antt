-- Document 01, "Decimal" and "Worth", at their limits, computed: the scale factors −10 and 10, a buffer of 32 bytes, the longest texts,
-- and the order of the refusals 43 to 46.
use mathlib.Core.Path.{◌≡◌, refl}
use mathlib.Core.List.{List, [], ◌∷◌, ◌++◌, map}
use Prim.Native.Nat.{ℕ, ◌-◌, ◌^◌}
use Prim.Native.String.{String}
use lib.ListN.{replicate}
use Rattle.lists.specs.Ascii.{ascii}
use Rattle.registers.specs.Registers.{too_wide}
use Rattle.point_types.specs.Presence.{Presence, mandatory, optional}
use Rattle.point_types.specs.Rows.{rows, row_among}
use Rattle.point_types.specs.declared.Presence as declared
use Rattle.values.specs.Classes.{twos_complement, integer, in_range, class_of, classified}
use Rattle.values.specs.Unscaled.{unscaled}
use Rattle.display.specs.Amounts.{amount_of}
use Rattle.display.specs.Decimals.{Decimal, text, refused, decimal_of, stored, last_digits, digit_count_within, unsigned_text}
use Rattle.display.specs.Equality as equality
use Rattle.display.specs.CodeTypes.{quantity_amount, decimal_into}
use Rattle.display.specs.declared.Quantity.{Quantity}

-- A type code, a presence, a raw value, a scale factor as a register, the length of the buffer; and the result.
pub record Line : Type 0 where
  pub code : ℕ
  pub presence : Presence
  pub raw : ℕ
  pub scale : ℕ
  pub buffer : ℕ
  pub result : Decimal

abbrev pub line_of : Presence → Decimal → ℕ → ℕ → ℕ → ℕ → Line
line_of presence result code raw scale buffer =
    record { code = code; presence = presence; raw = raw; scale = scale; buffer = buffer; result = result }

-- Of an optional point.
abbrev pub reads : ℕ → ℕ → ℕ → ℕ → String → Line
reads code raw scale buffer t = line_of optional (text (ascii t)) code raw scale buffer

abbrev pub refuses : ℕ → ℕ → ℕ → ℕ → ℕ → Line
refuses code raw scale buffer number = line_of optional (refused number 0) code raw scale buffer

unfoldable pub lines : List Line
lines =
    -- the scale factors: 10 and 11, −10 and −11
    reads 1 1 10 32 "10000000000"
    ∷ refuses 1 1 11 32 45
    ∷ reads 1 1 0xFFF6 32 "0.0000000001"
    ∷ refuses 1 1 0xFFF5 32 45
    ∷ refuses 1 1 0x8000 32 45
    ∷ refuses 1 1 0x7FFF 32 45
    -- the buffer
    ∷ reads 1 1 0 32 "1"
    ∷ refuses 1 1 0 31 46
    ∷ refuses 1 1 0 0 46
    -- zero
    ∷ reads 2 0 10 32 "0"
    ∷ reads 2 0 0xFFF6 32 "0.0000000000"
    -- the longest texts
    ∷ reads 16 0x8000000000000001 10 32 "-92233720368547758070000000000"
    ∷ reads 16 0x8000000000000001 0xFFF6 32 "-922337203.6854775807"
    ∷ reads 17 (2 ^ 64 - 2) 10 32 "184467440737095516140000000000"
    ∷ reads 17 (2 ^ 64 - 2) 0xFFF6 32 "1844674407.3709551614"
    -- the order of the refusals, and what is no value
    ∷ refuses 4 0xFFFF 11 31 43
    ∷ refuses 0 0 0 32 43
    ∷ refuses 21 1 0 32 43
    ∷ refuses 22 0 0 32 43
    ∷ refuses 1 0x8000 11 31 44
    ∷ refuses 1 0x10000 0 32 44
    ∷ refuses 18 (2 ^ 63) 0 32 44
    ∷ refuses 1 1 11 31 45
    -- an accumulator at 0: a value of a mandatory point, none of an optional one
    ∷ line_of mandatory (text (ascii "0")) 3 0 2 32
    ∷ line_of mandatory (text (ascii "0.0000000000")) 18 0 0xFFF6 32
    ∷ line_of mandatory (refused 45 0) 11 0 11 31
    ∷ refuses 11 0 11 31 44
    ∷ []

pub decimal_vectors : map (λ (l : Line). decimal_into l.code l.presence l.raw l.scale (replicate l.buffer 0)) lines
    ≡ map (λ (l : Line). l.result) lines
unfolding lines rows row_among too_wide twos_complement integer in_range class_of classified unscaled amount_of decimal_of last_digits digit_count_within unsigned_text
decimal_vectors = refl

-- The text is stored at the start of the buffer, and the later bytes stay.
pub later_bytes_stay : stored (decimal_into 1 optional 230 0xFFFF (replicate 33 7)) (replicate 33 7) ≡ ascii "23.0" ++ replicate 29 7
unfolding rows row_among too_wide twos_complement integer in_range class_of classified unscaled amount_of decimal_of last_digits digit_count_within unsigned_text
later_bytes_stay = refl

-- Two quantities, and how they compare.
abbrev quantity : ℕ → ℕ → ℕ → Quantity
quantity code raw scale = record { type_code = code; presence = declared.Presence.Optional; raw = raw; scale = scale }

abbrev mandatory_quantity : ℕ → ℕ → ℕ → Quantity
mandatory_quantity code raw scale = record { type_code = code; presence = declared.Presence.Mandatory; raw = raw; scale = scale }

abbrev pub Comparison : Type 0
Comparison = Quantity × (Quantity × equality.Equality)

unfoldable pub comparisons : List Comparison
comparisons =
    (quantity 17 10000000000 0xFFF6, (quantity 1 1 0, equality.equal))
    ∷ (quantity 17 10000000001 0xFFF6, (quantity 1 1 0, equality.different))
    ∷ (quantity 17 (10 ^ 19) 0xFFF6, (quantity 10 (10 ^ 9) 0, equality.equal))
    ∷ (quantity 1 1 10, (quantity 17 (10 ^ 19) 0xFFF7, equality.equal))
    ∷ (quantity 1 0xFFFF 0, (quantity 9 0xFFFFFFFF 0, equality.equal))  -- −1 of two widths
    ∷ (quantity 1 0xFFFF 0, (quantity 2 1 0, equality.different))
    ∷ (quantity 2 0 10, (quantity 1 0 0xFFF6, equality.equal))
    -- the first quantity is refused first
    ∷ (quantity 1 1 11, (quantity 4 1 0, equality.refused 45 0))
    ∷ (quantity 1 1 10, (quantity 4 1 0, equality.refused 43 0))
    ∷ (quantity 1 1 0, (quantity 1 0x8000 11, equality.refused 44 0))
    ∷ (quantity 1 1 0, (quantity 1 1 0xFFF5, equality.refused 45 0))
    -- each quantity has its own presence
    ∷ (mandatory_quantity 18 0 0, (mandatory_quantity 3 0 10, equality.equal))
    ∷ (mandatory_quantity 18 0 0, (quantity 3 0 10, equality.refused 44 0))
    ∷ (quantity 18 0 0, (mandatory_quantity 3 0 11, equality.refused 44 0))
    ∷ (quantity 11 5 0, (mandatory_quantity 11 5 0, equality.equal))
    ∷ []

pub comparison_vectors : map (λ (c : Comparison). equality.equality (quantity_amount c.0) (quantity_amount c.1.0)) comparisons
    ≡ map (λ (c : Comparison). c.1.1) comparisons
unfolding comparisons rows row_among too_wide twos_complement integer in_range class_of classified unscaled amount_of equality.equality
comparison_vectors = refl
