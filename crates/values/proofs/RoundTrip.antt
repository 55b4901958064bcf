-- A decoded number, encoded as registers again, gives the registers that it was read from.
use mathlib.Core.Path.{◌≡◌, refl, ap, ◌∙◌}
use mathlib.Core.List.{List}
use mathlib.Core.Bool.{not}
use mathlib.Core.Option.{some}
use Prim.Native.Nat.{ℕ, ◌*◌, ◌<◌}
use lib.Dec.{T}
use lib.Ieee.{top, of_bits, is_nan}
use lib.Ieee.Bits.{to_bits-of_bits, nan_bits_is}
use lib.ListN.{length, take}
use Rattle.registers.specs.Registers.{AreRegisters, split}
use Rattle.registers.proofs.RegisterParts.{first_registers}
use Rattle.registers.proofs.Splitting.{join_bound, split_join}
use Rattle.point_types.specs.Presence.{Presence}
use Rattle.point_types.specs.Rows.{TypeRow}
use Rattle.point_types.proofs.Table.{float_row}
use Rattle.values.specs.Classes.{Class, width, class_of, PatternOf}
use Rattle.values.specs.Decoding.{pattern_in, Decoded, decodable, decoded}
use Rattle.values.specs.Encoding.{raw_value_of, encoded}
use Rattle.values.proofs.TwosComplement.{pattern_back}
use Rattle.values.proofs.ClassCases.{row_of_decodable, decodable_most}
use Rattle.values.proofs.DecodedCases.{ResultOf, as_signed, as_unsigned, as_float, as_unimplemented, as_out_of_range, result_by}
use Rattle.values.proofs.FoundRow.{pattern_of, first_length}
use Rattle.values.proofs.NoNaN.{no_nan_pattern}

-- The raw value of a decoded number is the pattern.
raw_back : (row : TypeRow) (presence : Presence) (raw : ℕ) (d : Decoded) → PatternOf row raw → ResultOf row presence raw d → class_of row presence raw ≡ Class.value
    → raw_value_of row d ≡ some raw
raw_back row presence raw d p (as_signed k v) e = ap some (pattern_back (width row) raw p.fits)
raw_back row presence raw d p (as_unsigned k v) e = refl
raw_back row presence raw d p (as_float f k v) e =
    let h : raw < 2 * top f = rw (float_row row p.listed f k).0 at p.fits in
    let n : T (not (is_nan (of_bits f raw))) = rw (← nan_bits_is f raw, no_nan_pattern row raw f p.listed k presence v) tt in
    ap some (to_bits-of_bits f raw h n)
raw_back row presence raw d p (as_unimplemented v) e = cc
raw_back row presence raw d p (as_out_of_range v) e = cc

module _ (code : ℕ) (registers : List ℕ) (four : length registers ≡ 4) (all : AreRegisters registers) where
  pub holds_pattern : (row : TypeRow) → decodable code ≡ some row → PatternOf row (pattern_in row registers)
  holds_pattern row e =
      pattern_of code registers row four (decodable_most code row e) (row_of_decodable code row e) (pattern_in row registers)
      (join_bound (take row.most registers) (first_registers row.most registers all))

  -- The claim: if the registers hold a value, encoding the result gives the registers that were read.
  pub round_trip : (presence : Presence) (row : TypeRow) → decodable code ≡ some row
      → class_of row presence (pattern_in row registers) ≡ Class.value → encoded row (decoded code presence registers) ≡ some (take row.most registers)
  unfolding encoded
  round_trip presence row e v =
      simp (encoded, raw_back row presence (pattern_in row registers) (decoded code presence registers) (holds_pattern row e) (result_by code presence registers row e) v)
      (ap some back)
    where
      back : split row.most (pattern_in row registers) ≡ take row.most registers
      back =
          ap (λ (k : ℕ). split k (pattern_in row registers))
          (first_length code registers row four (decodable_most code row e) (row_of_decodable code row e))
          ∙ split_join (take row.most registers) (first_registers row.most registers all)
