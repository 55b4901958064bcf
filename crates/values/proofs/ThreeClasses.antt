-- Under the code of a row of the table, for a mandatory or an optional point, a pattern of the type's width has exactly one class; a
-- wider number has none.
-- This says how the tests of a row decide. What each row's tests are is the table itself, computed at its limits in ClassVectors.
use mathlib.Core.Path.{◌≡◌, sym}
use mathlib.Core.Logic.{◌↔◌}
use mathlib.Core.Bool.{true}
use mathlib.Core.Option.{some}
use native.Mathlib.Omega.{arith}
use Prim.Native.Nat.{ℕ, ◌^◌, ◌≤◌, ◌<◌}
use borrow.Author.Tests.{le-leb, lt-leb}
use Rattle.registers.specs.Registers as registers
use Rattle.point_types.specs.Presence.{Presence}
use Rattle.point_types.specs.Rows.{TypeRow, row_of}
use Rattle.values.specs.Classes.{width, in_range, Class, value, unimplemented, out_of_range, class_of, classified, too_wide}
use Rattle.values.specs.ThreeClasses.{Tests, OneClass}
use Rattle.values.proofs.ClassCases as cases

module _ (row : TypeRow) (presence : Presence) (raw : ℕ) where
  tested : Tests row presence raw (class_of row presence raw)
  unfolding class_of
  tested = grind (arith, class_of)

  of_tests : (c : Class) → Tests row presence raw c → class_of row presence raw ≡ c
  unfolding class_of
  of_tests unimplemented t = simp (class_of, t)
  of_tests out_of_range t = simp (class_of, t.0, t.1)
  of_tests value t = simp (class_of, t.0, t.1)

  pub class_is_its_tests : (c : Class) → (class_of row presence raw ≡ c) ↔ Tests row presence raw c
  class_is_its_tests c = (λ e. rw e at tested, of_tests c)

  pub value_in_range : class_of row presence raw ≡ value → in_range row raw ≡ true
  value_in_range v = ((class_is_its_tests value).0 v).1

-- The claims, by type code.
module _ (code : ℕ) (presence : Presence) (raw : ℕ) (row : TypeRow) (is : row_of code ≡ some row) where
  pub one_class : raw < 2 ^ width row → OneClass code presence raw row
  unfolding registers.too_wide
  one_class h =
      record {
        class = class_of row presence raw;
        is = cases.of_class_lem code presence raw row is (lt-leb _ _ h);
        tests = tested row presence raw;
        only = λ c t. sym (of_tests row presence raw c t);
      }

  pub wider_has_none : 2 ^ width row ≤ raw → classified code presence raw ≡ too_wide
  unfolding registers.too_wide
  wider_has_none h = cases.too_wide_lem code presence raw row is (le-leb _ _ h)
