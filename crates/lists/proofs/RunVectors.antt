-- A run and its orders, computed from the definitions: digits are appended to a number.
use mathlib.Core.Path.{◌≡◌, refl}
use mathlib.Core.List.{[], ◌∷◌}
use Prim.Native.Nat.{ℕ, ◌+◌, ◌*◌}
use Rattle.lists.specs.Runs.{state_after, Handled, handled}
use Rattle.lists.specs.Orders.{picked}

-- The number with one more digit.
abbrev append : ℕ → ℕ → ℕ
append number digit = number * 10 + digit

-- A digit and the number before it was appended.
abbrev appended_to : ℕ → ℕ → Handled ℕ ℕ
appended_to number digit = record { item = digit; result = number }

-- The digits 2, 3 and 5 are appended to 0, the first of them first. The result of each is the number before it.
pub digits : (state_after append 0 (2 ∷ 3 ∷ 5 ∷ []) ≡ 235)
    × (handled append (λ number digit. number) 0 (2 ∷ 3 ∷ 5 ∷ []) ≡ appended_to 0 2 ∷ appended_to 2 3 ∷ appended_to 23 5 ∷ [])
unfolding state_after handled
digits = (refl, refl)

-- The same digits at the positions 2, 0, 1. A position past the end gives the other number.
pub picked_digits : (picked {A = ℕ} 0 (2 ∷ 3 ∷ 5 ∷ []) (2 ∷ 0 ∷ 1 ∷ []) ≡ 5 ∷ 2 ∷ 3 ∷ [])
    × (picked {A = ℕ} 7 (2 ∷ 3 ∷ 5 ∷ []) (3 ∷ 1 ∷ []) ≡ 7 ∷ 3 ∷ [])
picked_digits = (refl, refl)
