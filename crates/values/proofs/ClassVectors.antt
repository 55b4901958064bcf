-- The class of a raw value at each limit of each row of the table, of an optional and of a mandatory point, computed together.
use mathlib.Core.Path.{◌≡◌, refl}
use mathlib.Core.List.{List, [], ◌∷◌, map}
use Prim.Native.Nat.{ℕ, ◌-◌, ◌^◌}
use lib.Ieee.{nan_bits}
use Rattle.registers.specs.Registers as registers
use Rattle.point_types.specs.Presence.{mandatory, optional}
use Rattle.point_types.specs.Rows.{rows, row_among}
use Rattle.values.specs.Classes.{twos_complement, integer, in_range, class_of, Class, Classified, of_class, too_wide, unknown_type, classified}

-- A type code, a raw value, its class if the point is optional, and if it is mandatory.
abbrev pub Line : Type 0
Line = ℕ × (ℕ × (Classified × Classified))

-- The same class for both.
abbrev either : Classified → ℕ → ℕ → Line
either class code raw = (code, (raw, (class, class)))

abbrev value : ℕ → ℕ → Line
value = either (of_class Class.value)

abbrev not_given : ℕ → ℕ → Line
not_given = either (of_class Class.unimplemented)

abbrev out : ℕ → ℕ → Line
out = either (of_class Class.out_of_range)

abbrev wide : ℕ → ℕ → Line
wide = either too_wide

abbrev unknown : ℕ → ℕ → Line
unknown = either unknown_type

-- An accumulator at 0.
abbrev counter_at0 : ℕ → Line
counter_at0 code = (code, (0, (of_class Class.unimplemented, of_class Class.value)))

unfoldable pub lines : List Line
lines =
    unknown 0 0
    -- int16, uint16, acc16, enum16
    ∷ value 1 0x7FFF ∷ not_given 1 0x8000 ∷ value 1 0x8001 ∷ value 1 0xFFFF ∷ wide 1 0x10000
    ∷ value 2 0 ∷ value 2 0xFFFE ∷ not_given 2 0xFFFF ∷ wide 2 0x10000
    ∷ counter_at0 3 ∷ value 3 1 ∷ value 3 0xFFFF ∷ wide 3 0x10000
    ∷ value 4 0 ∷ value 4 0xFFFE ∷ not_given 4 0xFFFF ∷ wide 4 0x10000
    -- bitfield16, pad, raw16, sunssf
    ∷ value 5 0 ∷ value 5 0x7FFF ∷ out 5 0x8000 ∷ out 5 0xFFFE ∷ not_given 5 0xFFFF ∷ wide 5 0x10000
    ∷ out 6 0 ∷ out 6 0x7FFF ∷ value 6 0x8000 ∷ out 6 0x8001 ∷ out 6 0xFFFF ∷ wide 6 0x10000
    ∷ value 7 0 ∷ value 7 0x8000 ∷ value 7 0xFFFF ∷ wide 7 0x10000
    ∷ value 8 10 ∷ out 8 11 ∷ out 8 0x7FFF ∷ not_given 8 0x8000 ∷ out 8 0x8001 ∷ out 8 0xFFF5 ∷ value 8 0xFFF6 ∷ wide 8 0x10000
    -- int32, uint32, acc32, enum32, bitfield32
    ∷ value 9 0x7FFFFFFF ∷ not_given 9 0x80000000 ∷ value 9 0x80000001 ∷ value 9 0xFFFFFFFF ∷ wide 9 0x100000000
    ∷ value 10 0 ∷ value 10 0xFFFFFFFE ∷ not_given 10 0xFFFFFFFF ∷ wide 10 0x100000000
    ∷ counter_at0 11 ∷ value 11 1 ∷ value 11 0xFFFFFFFF ∷ wide 11 0x100000000
    ∷ value 12 0 ∷ value 12 0xFFFFFFFE ∷ not_given 12 0xFFFFFFFF ∷ wide 12 0x100000000
    ∷ value 13 0 ∷ value 13 0x7FFFFFFF ∷ out 13 0x80000000 ∷ out 13 0xFFFFFFFE ∷ not_given 13 0xFFFFFFFF ∷ wide 13 0x100000000
    -- float32: infinities and negative zero are values
    ∷ value 14 0x7F800000 ∷ out 14 0x7F800001 ∷ out 14 0x7FBFFFFF ∷ not_given 14 0x7FC00000 ∷ out 14 0x7FC00001 ∷ out 14 0x7FFFFFFF
    ∷ value 14 0x80000000 ∷ value 14 0xFF800000 ∷ out 14 0xFF800001 ∷ out 14 0xFFC00000 ∷ out 14 0xFFFFFFFF ∷ wide 14 0x100000000
    -- ipaddr, int64, uint64, acc64
    ∷ not_given 15 0 ∷ value 15 1 ∷ value 15 0xFFFFFFFF ∷ wide 15 0x100000000
    ∷ value 16 0x7FFFFFFFFFFFFFFF ∷ not_given 16 0x8000000000000000 ∷ value 16 0x8000000000000001 ∷ value 16 (2 ^ 64 - 1) ∷ wide 16 (2 ^ 64)
    ∷ value 17 0 ∷ value 17 (2 ^ 64 - 2) ∷ not_given 17 (2 ^ 64 - 1) ∷ wide 17 (2 ^ 64)
    ∷ counter_at0 18 ∷ value 18 1 ∷ value 18 9223372036854775807 ∷ out 18 9223372036854775808 ∷ out 18 (2 ^ 64 - 1) ∷ wide 18 (2 ^ 64)
    -- string at its longest, ipv6addr
    ∷ not_given 19 0 ∷ value 19 1 ∷ value 19 (2 ^ 1024 - 1) ∷ wide 19 (2 ^ 1024)
    ∷ not_given 20 0 ∷ value 20 1 ∷ value 20 (2 ^ 128 - 1) ∷ wide 20 (2 ^ 128)
    -- bitfield64
    ∷ value 21 0 ∷ value 21 0x7FFFFFFFFFFFFFFF ∷ out 21 0x8000000000000000 ∷ out 21 (2 ^ 64 - 2) ∷ not_given 21 (2 ^ 64 - 1) ∷ wide 21 (2 ^ 64)
    -- float64: infinities, negative zero and subnormals are values
    ∷ value 22 0 ∷ value 22 1 ∷ value 22 0x7FF0000000000000 ∷ out 22 0x7FF0000000000001 ∷ out 22 0x7FF00000FFFFFFFF ∷ out 22 0x7FF7FFFFFFFFFFFF
    ∷ not_given 22 0x7FF8000000000000 ∷ out 22 0x7FF8000000000001 ∷ out 22 0x7FFFFFFFFFFFFFFF ∷ value 22 0x8000000000000000
    ∷ value 22 0xFFF0000000000000 ∷ out 22 0xFFF0000000000001 ∷ out 22 0xFFF8000000000000 ∷ out 22 (2 ^ 64 - 1) ∷ wide 22 (2 ^ 64)
    ∷ unknown 23 0
    ∷ []

pub class_vectors : map (λ (l : Line). (classified l.0 optional l.1.0, classified l.0 mandatory l.1.0)) lines
    ≡ map (λ (l : Line). l.1.1) lines
unfolding lines rows row_among registers.too_wide twos_complement integer in_range class_of classified nan_bits
class_vectors = refl
