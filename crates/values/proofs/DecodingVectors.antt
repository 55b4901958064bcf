-- What `decode` returns for floats of both formats and for bitfield64, at their limits, for accumulators at 0, and codes that it
-- refuses; computed.
use mathlib.Core.Path.{◌≡◌, refl}
use mathlib.Core.Bool.{true, false}
use mathlib.Core.List.{List, [], ◌∷◌, map}
use Prim.Native.Nat.{ℕ}
use lib.Count.{count_trailing_zeros}
use lib.IntN.{pos, negsuc}
use lib.Ieee.{binary32, binary64, inf, fin, nan_bits, odd, of_fields, of_bits}
use Rattle.registers.specs.Registers.{join}
use Rattle.point_types.specs.Presence.{Presence, mandatory, optional}
use Rattle.point_types.specs.Rows.{rows, row_among}
use Rattle.values.specs.Classes.{integer, in_range, class_of}
use Rattle.values.specs.Decoding.{Decoded, unsigned, float, unimplemented, out_of_range, refused, number_of, value_of, decodable, decoded}

-- A type code, a presence, four registers, and what they are decoded as.
abbrev pub Line : Type 0
Line = ℕ × (Presence × (List ℕ × Decoded))

abbrev decodes_for : Presence → ℕ → ℕ → ℕ → ℕ → ℕ → Decoded → Line
decodes_for presence code a b c d result = (code, (presence, (a ∷ b ∷ c ∷ d ∷ [], result)))

-- An optional point.
abbrev decodes : ℕ → ℕ → ℕ → ℕ → ℕ → Decoded → Line
decodes = decodes_for optional

unfoldable pub lines : List Line
lines =
    -- 1.5, negative zero, the least positive number, the greatest finite one and the infinities are values in both formats
    decodes 14 0x3FC0 0 0xFFFF 0xFFFF (float binary32 (fin false 3 (negsuc 0)))
    ∷ decodes 22 0x3FF8 0 0 0 (float binary64 (fin false 3 (negsuc 0)))
    ∷ decodes 14 0x8000 0 0xFFFF 0xFFFF (float binary32 (fin true 0 (pos 0)))
    ∷ decodes 22 0x8000 0 0 0 (float binary64 (fin true 0 (pos 0)))
    ∷ decodes 14 0 1 0xFFFF 0xFFFF (float binary32 (fin false 1 (negsuc 148)))
    ∷ decodes 22 0 0 0 1 (float binary64 (fin false 1 (negsuc 1073)))
    ∷ decodes 14 0x7F7F 0xFFFF 0xFFFF 0xFFFF (float binary32 (fin false 0xFFFFFF (pos 104)))
    ∷ decodes 22 0x7FEF 0xFFFF 0xFFFF 0xFFFF (float binary64 (fin false 0x1FFFFFFFFFFFFF (pos 971)))
    ∷ decodes 14 0x7F80 0 0xFFFF 0xFFFF (float binary32 (inf false))
    ∷ decodes 22 0x7FF0 0 0 0 (float binary64 (inf false))
    ∷ decodes 22 0xFFF0 0 0 0 (float binary64 (inf true))
    -- one NaN is unimplemented, every other is out of range
    ∷ decodes 14 0x7FC0 0 0xFFFF 0xFFFF unimplemented
    ∷ decodes 22 0x7FF8 0 0 0 unimplemented
    ∷ decodes 22 0x7FF0 0 0 1 out_of_range
    ∷ decodes 22 0xFFF8 0 0 0 out_of_range
    -- bitfield64
    ∷ decodes 21 0x7FFF 0xFFFF 0xFFFF 0xFFFF (unsigned 0x7FFFFFFFFFFFFFFF)
    ∷ decodes 21 0x8000 0 0 0 out_of_range
    ∷ decodes 21 0xFFFF 0xFFFF 0xFFFF 0xFFFF unimplemented
    -- a mandatory accumulator at 0 is a value, an optional one is unimplemented; a mandatory ipaddr at 0 is unimplemented
    ∷ decodes_for mandatory 3 0 0xFFFF 0xFFFF 0xFFFF (unsigned 0)
    ∷ decodes_for mandatory 11 0 0 0xFFFF 0xFFFF (unsigned 0)
    ∷ decodes_for mandatory 18 0 0 0 0 (unsigned 0)
    ∷ decodes 3 0 0xFFFF 0xFFFF 0xFFFF unimplemented
    ∷ decodes 11 0 0 0xFFFF 0xFFFF unimplemented
    ∷ decodes 18 0 0 0 0 unimplemented
    ∷ decodes_for mandatory 15 0 0 0xFFFF 0xFFFF unimplemented
    -- 0, string, ipv6addr and an unknown type
    ∷ decodes 0 0 0 0 0 (refused 40 0)
    ∷ decodes 19 0x4142 0 0 0 (refused 40 0)
    ∷ decodes 20 0 0 0 1 (refused 40 0)
    ∷ decodes 23 0 0 0 1 (refused 40 0)
    ∷ []

pub decoding_vectors : map (λ (l : Line). decoded l.0 l.1.0 l.1.1.0) lines ≡ map (λ (l : Line). l.1.1.1) lines
unfolding lines rows row_among join integer in_range class_of number_of value_of decodable decoded nan_bits count_trailing_zeros odd of_fields of_bits
decoding_vectors = refl
