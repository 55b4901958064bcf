-- Encoding: the registers of a decoded number, the inverse of `decoded`.
use Rattle.std.specs.Prelude.{List, ℕ, suc, ◌-◌, ◌^◌, ℤ, pos, negsuc}
use Rattle.std.proofs.Math.Option.{Option, none, some}
use Rattle.std.specs.Float.Ieee.{to_bits}
use Rattle.registers.specs.Registers.{split}
use Rattle.point_types.specs.Rows.{TypeRow}
use Rattle.values.specs.Classes.{width}
use Rattle.values.specs.Decoding.{Decoded, signed, unsigned, float, unimplemented, out_of_range, refused}

-- The pattern of an integer in two's complement of `bits` bits.
abbrev pub twos_pattern : ℕ → ℤ → ℕ
twos_pattern bits (pos n) = n
twos_pattern bits (negsuc n) = 2 ^ bits - suc n

-- The raw value of a decoded number; the other results have none.
abbrev pub raw_value_of : TypeRow → Decoded → Option ℕ
raw_value_of row (signed z) = some (twos_pattern (width row) z)
raw_value_of row (unsigned n) = some n
raw_value_of row (float f x) = some (to_bits f x)
raw_value_of row unimplemented = none
raw_value_of row out_of_range = none
raw_value_of row (refused n place) = none

-- The registers of a decoded number of a type, the highest first.
unfoldable pub encoded : TypeRow → Decoded → Option (List ℕ)
encoded row result = elim (raw_value_of row result) [ none ↦ none | some raw ↦ some (split row.most raw) ]
