-- A decoded float is never a NaN, in either format.
use mathlib.Core.Path.{◌≡◌, sym, ap, subst, ◌∙◌}
use mathlib.Core.Bool.{true, false, not}
use mathlib.Core.List.{List}
use mathlib.Core.Option.{some}
use Prim.Native.Nat.{ℕ}
use borrow.Author.Tests.{not-true}
use lib.Dec.{T}
use lib.Ieee.{Format, Float, is_nan, nan_bits}
use lib.Ieee.Bits.{nan_bits_is}
use Rattle.point_types.specs.Presence.{Presence}
use Rattle.point_types.specs.Rows.{TypeRow, Kind, Listed}
use Rattle.point_types.proofs.Table.{float_row, listed}
use Rattle.values.specs.Classes.{Class, holds_nan, in_range, class_of}
use Rattle.values.specs.Decoding.{pattern_in, float, decodable, decoded}
use Rattle.values.proofs.Ranges.{in_not_nan}
use Rattle.values.proofs.ClassCases.{row_of_decodable}
use Rattle.values.proofs.ThreeClasses.{value_in_range}
use Rattle.values.proofs.DecodedCases.{ResultOf, as_float, Cases, value_by_row, cases}

module _ (row : TypeRow) (raw : ℕ) (f : Format) (l : Listed row) (k : row.kind ≡ Kind.float f) where
  -- In the range of a float type is every pattern but a NaN's,
  pub float_in_range : in_range row raw ≡ not (nan_bits f raw)
  float_in_range = in_not_nan row raw (float_row row l f k).1 ∙ ap (λ (x : Kind). not (holds_nan x raw)) k

  pub no_nan_in_range : in_range row raw ≡ true → nan_bits f raw ≡ false
  no_nan_in_range r = not-true (nan_bits f raw) (sym float_in_range ∙ r)

  -- so a value of it is not the pattern of a NaN.
  pub no_nan_pattern : (presence : Presence) → class_of row presence raw ≡ Class.value → nan_bits f raw ≡ false
  no_nan_pattern presence v = no_nan_in_range (value_in_range row presence raw v)

pub no_nan : (code : ℕ) (presence : Presence) (registers : List ℕ) (f : Format) (x : Float) → decoded code presence registers ≡ float f x
    → T (not (is_nan x))
no_nan code presence registers f x e = go f x (subst (Cases code presence registers) e (cases code presence registers))
  where
    -- the case of a row, its pattern's float last, since that depends on the row
    by_result : (row : TypeRow) → decodable code ≡ some row → (g : Format) (y : Float)
        → ResultOf row presence (pattern_in row registers) (float g y) → T (not (is_nan y))
    by_result row is g y (as_float h k v) =
        let raw = pattern_in row registers in
        rw (← nan_bits_is h raw, no_nan_pattern row raw h (listed code row (row_of_decodable code row is)) k presence v) tt

    go : (g : Format) (y : Float) → Cases code presence registers (float g y) → T (not (is_nan y))
    go g y (value_by_row row is r) = by_result row is g y r
