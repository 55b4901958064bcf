-- The count of a fill group, case by case.
use mathlib.Core.Path.{◌≡◌, ap}
use mathlib.Core.Bool.{Bool, true, false}
use mathlib.Core.Option.{Option, none, some}
use Prim.Native.Nat.{ℕ, ◌-◌, ◌/◌, ◌%◌, ◌≤◌, ◌<◌}
use native.Mathlib.Decide.{dec_le}
use native.Mathlib.Nat.{div-le_self}
use native.Mathlib.Omega.{arith}
use borrow.Author.Tests.{eq-eqb, ne_eqb, le-ltb, lt-ltb}
use lib.Dec.{eqb}
use Rattle.layout.specs.Counts.{or0}
use Rattle.group_instances.specs.Fills.{filled}

module _ (len rest size : ℕ) where
  -- The length is below the rest.
  pub too_short : len < rest → filled len rest size ≡ none
  too_short l = rw (lt-ltb len rest l, filled)

  -- There is no fill group: the length is the rest, or it does not fit.
  pub rest_alone : size ≡ 0 → len ≡ rest → filled len rest size ≡ some 0
  rest_alone z e =
      let long : rest ≤ len = omega arith in
      rw (le-ltb len rest long, filled) (rw (eq-eqb size 0 z, eq-eqb len rest e))

  pub more_than_the_rest : size ≡ 0 → (len ≡ rest → ⊥) → rest ≤ len → filled len rest size ≡ none
  more_than_the_rest z n long = rw (le-ltb len rest long, filled) (rw (eq-eqb size 0 z, ne_eqb len rest n))

  -- There is a fill group: the remainder decides.
  pub by_remainder : (size ≡ 0 → ⊥) → rest ≤ len
      → filled len rest size
      ≡ elim (eqb ((len - rest) % size) 0) [ true ↦ some ((len - rest) / size) | false ↦ none ]
  by_remainder n long = rw (le-ltb len rest long, filled) (rw (ne_eqb size 0 n))

  pub fills_up : (size ≡ 0 → ⊥) → rest ≤ len → (len - rest) % size ≡ 0 → filled len rest size ≡ some ((len - rest) / size)
  fills_up n long e = rw (by_remainder n long) (rw (eq-eqb ((len - rest) % size) 0 e))

  pub left_over : (size ≡ 0 → ⊥) → rest ≤ len → ((len - rest) % size ≡ 0 → ⊥) → filled len rest size ≡ none
  left_over n long e = rw (by_remainder n long) (rw (ne_eqb ((len - rest) % size) 0 e))

-- The count is at most the length.
pub few_fills : (len rest size : ℕ) → or0 (filled len rest size) ≤ len
few_fills len rest size = go (dec_le rest len) (dec_le size 0) (dec_le len rest)
  where
    here : {o : Option ℕ} → filled len rest size ≡ o → or0 o ≤ len → or0 (filled len rest size) ≤ len
    here e l = let same = ap or0 e in omega arith

    of_quotient : (b : Bool) → or0 (elim b [ true ↦ some ((len - rest) / size) | false ↦ none ]) ≤ len
    of_quotient true = let d = div-le_self (len - rest) size in omega arith
    of_quotient false = omega arith

    go : Dec (rest ≤ len) → Dec (size ≤ 0) → Dec (len ≤ rest) → or0 (filled len rest size) ≤ len
    go (no h) s r = here (too_short len rest size (omega arith)) (omega arith)
    go (yes h) (no s) r =
        here (by_remainder len rest size (λ z. s (omega arith)) h) (of_quotient (eqb ((len - rest) % size) 0))
    go (yes h) (yes s) (yes r) = here (rest_alone len rest size (omega arith) (omega arith)) (omega arith)
    go (yes h) (yes s) (no r) = here (more_than_the_rest len rest size (omega arith) (λ q. r (omega arith)) h) (omega arith)
