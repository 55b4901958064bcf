-- The cases of `decoded`, each with its reason: the laws about decoded numbers go by these.
use mathlib.Core.Path.{◌≡◌, refl, sym, ap, subst}
use mathlib.Core.Bool.{true}
use mathlib.Core.List.{List}
use mathlib.Core.Option.{Option, none, some}
use Prim.Native.Nat.{ℕ}
use lib.Ieee.{Format, of_bits}
use Rattle.point_types.specs.Presence.{Presence}
use Rattle.point_types.specs.Rows.{TypeRow, Kind}
use Rattle.values.specs.Classes.{Class, class_of, width, twos_complement}
use Rattle.values.specs.Decoding.{pattern_in, Decoded, signed, unsigned, float, unimplemented, out_of_range, refused, number_of, value_by, value_of, decodable, decoded}
use Rattle.values.proofs.ClassCases.{by_row}
use Rattle.values.proofs.Ranges.{is_unsigned}

-- The result for a pattern: a number, read by the type's kind, if the pattern is a value; else unimplemented or out of range.
pub data ResultOf (row : TypeRow) (presence : Presence) (raw : ℕ) : Decoded → Type 0 where
  as_signed : row.kind ≡ Kind.signed → class_of row presence raw ≡ Class.value → ResultOf row presence raw (signed (twos_complement (width row) raw))
  as_unsigned : is_unsigned row.kind ≡ true → class_of row presence raw ≡ Class.value → ResultOf row presence raw (unsigned raw)
  as_float : (f : Format) → row.kind ≡ Kind.float f → class_of row presence raw ≡ Class.value → ResultOf row presence raw (float f (of_bits f raw))
  as_unimplemented : class_of row presence raw ≡ Class.unimplemented → ResultOf row presence raw unimplemented
  as_out_of_range : class_of row presence raw ≡ Class.out_of_range → ResultOf row presence raw out_of_range

result_of : (row : TypeRow) (presence : Presence) (raw : ℕ) → ResultOf row presence raw (value_of row presence raw)
unfolding value_of number_of
result_of row presence raw = by_class (class_of row presence raw) refl
  where
    by_kind : (k : Kind) → row.kind ≡ k → class_of row presence raw ≡ Class.value
        → ResultOf row presence raw
        (elim k [
          | Kind.signed ↦ signed (twos_complement (width row) raw)
          | Kind.unsigned ↦ unsigned raw
          | Kind.accumulator ↦ unsigned raw
          | Kind.float f ↦ float f (of_bits f raw)
        ])
    by_kind Kind.signed k v = as_signed k v
    by_kind Kind.unsigned k v = as_unsigned (ap is_unsigned k) v
    by_kind Kind.accumulator k v = as_unsigned (ap is_unsigned k) v
    by_kind (Kind.float f) k v = as_float f k v

    by_class : (c : Class) → class_of row presence raw ≡ c → ResultOf row presence raw (value_by row c raw)
    by_class Class.value c = by_kind row.kind refl c
    by_class Class.unimplemented c = as_unimplemented c
    by_class Class.out_of_range c = as_out_of_range c

-- The result for a code and registers: by the code's row, or refusal 40 at place 0.
pub data Cases (code : ℕ) (presence : Presence) (registers : List ℕ) : Decoded → Type 0 where
  value_by_row : {d : Decoded} (row : TypeRow) → decodable code ≡ some row → ResultOf row presence (pattern_in row registers) d → Cases code presence registers d
  no_row : decodable code ≡ none → Cases code presence registers (refused 40 0)

pub cases : (code : ℕ) (presence : Presence) (registers : List ℕ) → Cases code presence registers (decoded code presence registers)
unfolding decoded
cases code presence registers = go (decodable code) refl
  where
    go : (o : Option TypeRow) → decodable code ≡ o
        → Cases code presence registers (elim o [ none ↦ refused 40 0 | some row ↦ value_of row presence (pattern_in row registers) ])
    go none e = no_row e
    go (some row) e = value_by_row row e (result_of row presence (pattern_in row registers))

-- The result for a code whose row is known.
pub result_by : (code : ℕ) (presence : Presence) (registers : List ℕ) (row : TypeRow) → decodable code ≡ some row
    → ResultOf row presence (pattern_in row registers) (decoded code presence registers)
result_by code presence registers row e =
    subst (ResultOf row presence (pattern_in row registers)) (sym (by_row code presence registers row e)) (result_of row presence (pattern_in row registers))
