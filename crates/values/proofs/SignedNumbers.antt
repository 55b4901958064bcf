-- A decoded signed number is the two's complement of its pattern: the only integer from -2 ^ (width - 1) to 2 ^ (width - 1) - 1 that
-- equals the pattern or the pattern less 2 ^ width.
use mathlib.Core.Path.{◌≡◌, refl, sym, ap, subst, ◌∙◌}
use mathlib.Core.Logic.{inl, inr}
use mathlib.Core.List.{List}
use mathlib.Core.Option.{some}
use Prim.Native.Nat.{ℕ, suc, ◌-◌, ◌^◌, ◌≤◌, ◌<◌}
use native.Mathlib.Omega.{arith}
use Rattle.std.proofs.lemmas.Int.{ints}
use lib.Dec.{lt→ltb}
use lib.IntN.{ℤ, pos, negsuc, ◌+ℤ◌, -ℤ-+ℤ_cancel}
use lib.ListN.{length}
use Rattle.registers.specs.Registers.{AreRegisters}
use Rattle.point_types.specs.Presence.{Presence}
use Rattle.point_types.specs.Rows.{TypeRow}
use Rattle.point_types.proofs.Table.{listed, signed_width}
use Rattle.values.specs.Classes.{width, twos_complement}
use Rattle.values.specs.Decoding.{pattern_in, signed, decodable, decoded}
use Rattle.values.specs.SignedNumbers.{TwosComplementOf}
use Rattle.values.proofs.IntegerOrder.{negative_le, negative_le_negative}
use Rattle.values.proofs.ClassCases.{row_of_decodable}
use Rattle.values.proofs.TwosComplement.{by_half, less}
use Rattle.values.proofs.MachineIntegers.{halves}
use Rattle.values.proofs.DecodedCases.{ResultOf, as_signed, result_by}
use Rattle.values.proofs.RoundTrip.{holds_pattern}

module _ (width raw : ℕ) (wide : 1 ≤ width) (fits : raw < 2 ^ width) where
  pub twos_complement_lem : TwosComplementOf width raw (twos_complement width raw)
  twos_complement_lem = by_half width raw (TwosComplementOf width raw) fits lower upper
    where
      lower : raw < 2 ^ (width - 1) → TwosComplementOf width raw (pos raw)
      lower l =
          record {
            low = record { le = negative_le (2 ^ (width - 1)) raw };
            high = record { lt = lt→ltb raw (2 ^ (width - 1)) l };
            same = inl refl;
          }

      upper : 2 ^ (width - 1) ≤ raw → TwosComplementOf width raw (negsuc (2 ^ width - suc raw))
      upper u =
          record {
            low = record { le = negative_le_negative (2 ^ (width - 1)) (2 ^ width - suc raw) (omega (arith, halves width wide)) };
            high = record { lt = tt };
            same = inr (ap (λ (y : ℤ). y +ℤ pos (2 ^ width)) (sym (less raw (2 ^ width) fits)) ∙ -ℤ-+ℤ_cancel (pos raw) (pos (2 ^ width)));
          }

-- There is only one: the pattern and the pattern less 2 ^ width do not both lie in the range.
module _ (width raw : ℕ) (wide : 1 ≤ width) where
  pub unique : (z y : ℤ) → TwosComplementOf width raw z → TwosComplementOf width raw y → z ≡ y
  unique z y a b = grind (arith, ints, halves width wide)

module _ (code : ℕ) (registers : List ℕ) (four : length registers ≡ 4) (all : AreRegisters registers) where
  pub signed_number : (presence : Presence) (row : TypeRow) → decodable code ≡ some row → (z : ℤ) → decoded code presence registers ≡ signed z
      → TwosComplementOf (width row) (pattern_in row registers) z
  signed_number presence row e z q =
      go z (subst (ResultOf row presence (pattern_in row registers)) q (result_by code presence registers row e))
    where
      go : (y : ℤ) → ResultOf row presence (pattern_in row registers) (signed y) → TwosComplementOf (width row) (pattern_in row registers) y
      go y (as_signed k v) =
          twos_complement_lem (width row) (pattern_in row registers)
          (omega (arith, signed_width row (listed code row (row_of_decodable code row e)) k)) (holds_pattern code registers four all row e).fits
