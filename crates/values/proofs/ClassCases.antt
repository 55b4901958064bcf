-- The cases of `class_of`, `classified` and `decoded`.
use mathlib.Core.Path.{◌≡◌, refl}
use mathlib.Core.Bool.{true, false}
use mathlib.Core.Option.{none, some}
use mathlib.Core.List.{List}
use Prim.Native.Nat.{ℕ, ◌≤◌, ◌<◌}
use borrow.Author.Tests.{le-leb, lt-leb}
use native.Mathlib.Omega.{arith}
use Rattle.std.proofs.lemmas.Bool.Decides.{nat_tests}
use Rattle.registers.specs.Registers as registers
use Rattle.point_types.specs.Presence.{Presence}
use Rattle.point_types.specs.Rows.{TypeRow, row_of, unimplemented_for}
use Rattle.values.specs.Classes.{is_unimplemented, in_range, value, unimplemented, out_of_range, class_of, Classified, classified, of_class, too_wide, unknown_type, is_value}
use Rattle.values.specs.Decoding.{pattern_in, value_of, decodable, decoded, refused}

pub in_range_lem : (row : TypeRow) (presence : Presence) (raw : ℕ) → is_unimplemented (unimplemented_for row presence) raw ≡ false
    → in_range row raw ≡ true → class_of row presence raw ≡ value
unfolding class_of
in_range_lem row presence raw m r = simp (class_of, m, r)

-- A raw value that passes the test `is_value` is of the class of values.
pub value_class : (c : Classified) → is_value c ≡ true → c ≡ of_class value
value_class (of_class value) e = refl
value_class (of_class unimplemented) e = cc
value_class (of_class out_of_range) e = cc
value_class too_wide e = cc
value_class unknown_type e = cc

module _ (code : ℕ) (presence : Presence) (raw : ℕ) where
  pub too_wide_lem : (row : TypeRow) → row_of code ≡ some row → registers.too_wide row.most raw ≡ true → classified code presence raw ≡ too_wide
  unfolding classified
  too_wide_lem row e w = simp (classified, e, w)

  pub of_class_lem : (row : TypeRow) → row_of code ≡ some row → registers.too_wide row.most raw ≡ false
      → classified code presence raw ≡ of_class (class_of row presence raw)
  unfolding classified
  of_class_lem row e w = simp (classified, e, w)

-- `decoded`, by the code's row.
module _ (code : ℕ) (presence : Presence) (registers : List ℕ) where
  pub no_row_lem : row_of code ≡ none → decoded code presence registers ≡ refused 40 0
  unfolding decodable decoded
  no_row_lem e = simp (decoded, decodable, e)

  pub too_long : (row : TypeRow) → row_of code ≡ some row → 4 < row.most → decoded code presence registers ≡ refused 40 0
  unfolding decodable decoded
  too_long row e h = simp (decoded, decodable, e, lt-leb _ _ h)

  pub by_row : (row : TypeRow) → decodable code ≡ some row → decoded code presence registers ≡ value_of row presence (pattern_in row registers)
  unfolding decoded
  by_row row e = simp (decoded, e)

-- The row that decodes a code: the table's, if it takes at most four registers.
module _ (code : ℕ) (row : TypeRow) where
  pub decodes : row_of code ≡ some row → row.most ≤ 4 → decodable code ≡ some row
  unfolding decodable
  decodes e h = simp (decodable, e, le-leb _ _ h)

  decoding_row : decodable code ≡ some row → (row_of code ≡ some row) × (row.most ≤ 4)
  unfolding decodable
  decoding_row e = grind (arith, nat_tests, decodable)

  pub row_of_decodable : decodable code ≡ some row → row_of code ≡ some row
  row_of_decodable e = (decoding_row e).0

  pub decodable_most : decodable code ≡ some row → row.most ≤ 4
  decodable_most e = (decoding_row e).1
