-- Facts that decoding by a row of the table needs, if it takes at most four registers and four are given.
use mathlib.Core.Path.{◌≡◌, sym, ap, ◌∙◌}
use mathlib.Core.List.{List}
use mathlib.Core.Option.{some}
use Prim.Native.Nat.{ℕ, ◌^◌, ◌≤◌, ◌<◌}
use native.Mathlib.Omega.{arith}
use lib.ListN.{length, take}
use lib.Seq.{length-take-le}
use Rattle.registers.specs.Registers.{shown_raw}
use Rattle.registers.proofs.Joining.{shown, first_fit}
use Rattle.point_types.specs.Presence.{Presence}
use Rattle.point_types.specs.Rows.{TypeRow, row_of}
use Rattle.point_types.proofs.Table.{listed}
use Rattle.values.specs.Classes.{PatternOf}
use Rattle.values.specs.Decoding.{value_of, decoded}
use Rattle.values.proofs.ClassCases.{decodes, by_row}

module _ (code : ℕ) (registers : List ℕ) (row : TypeRow) (four : length registers ≡ 4) (most : row.most ≤ 4)
    (is : row_of code ≡ some row) where
  -- The type's registers are among the four.
  pub among_four : row.most ≤ length registers
  among_four = rw four most

  pub first_length : row.most ≡ length (take row.most registers)
  first_length = sym (length-take-le row.most registers among_four)

  -- Their raw value is a pattern of the type, and its result is that of `decoded`.
  pub pattern_of : (raw : ℕ) → raw < 65536 ^ length (take row.most registers) → PatternOf row raw
  pattern_of raw h = record { listed = listed code row is; fits = first_fit registers row.most raw among_four h }

  pub result_of : (presence : Presence) (raw : ℕ) → raw ≡ shown_raw (take row.most registers)
      → value_of row presence raw ≡ decoded code presence registers
  result_of presence raw e =
      let l : length (take row.most registers) ≤ 4 = omega (arith, first_length, among_four, four) in
      ap (value_of row presence) (e ∙ shown (take row.most registers) l)
      ∙ sym (by_row code presence registers row (decodes code row is most))
