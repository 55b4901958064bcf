-- Document 01, "Events", with the type of change request 1: the bits that are set in the value of a bitfield.
use Rattle.std.specs.Prelude.{Bool, true, false, ◌||◌, List, [], ◌∷◌, ℕ, zero, suc, ◌/◌, ◌%◌, ◌^◌, eqb, length}
use Rattle.point_types.specs.Presence.{optional}
use Rattle.values.specs.Classes.{is_value, classified}

-- Is the bit of n at this position set?
abbrev pub is_set : ℕ → ℕ → Bool
is_set n position = eqb ((n / 2 ^ position) % 2) 1

-- The set positions of n among `count` positions from `first` on, lowest first.
unfoldable pub set_among : ℕ → ℕ → ℕ → List ℕ
set_among zero first n = []
set_among (suc count) first n =
    elim (is_set n first) [ true ↦ first ∷ set_among count (suc first) n | false ↦ set_among count (suc first) n ]

-- The set positions of a raw value of 64 bits.
abbrev pub set_positions : ℕ → List ℕ
set_positions raw = set_among 64 0 raw

-- The first number of a list, here the lowest position; or `other` if the list is empty.
abbrev pub first_or : ℕ → List ℕ → ℕ
first_or other [] = other
first_or other (x ∷ xs) = x

-- Is it the code of a bitfield type: 5 (bitfield16), 13 (bitfield32) or 21 (bitfield64)?
abbrev pub is_bitfield : ℕ → Bool
is_bitfield code = eqb code 5 || (eqb code 13 || eqb code 21)

-- The results: the number of bits that are set and the position of the lowest, 64 if there is none; or a refusal, by number and place.
pub data EventBits : Type 0 where
  bits : (count lowest : ℕ) → EventBits
  refused : (number place : ℕ) → EventBits

-- 41: the type is not 5, 13 or 21. 42: unimplemented, out of range or too wide. Both have place 0. (Mandatory or optional is the same
-- here: proofs/AnyPresence.antt.)
unfoldable pub event_bits : ℕ → ℕ → EventBits
event_bits code raw =
    elim (is_bitfield code) [
      | false ↦ refused 41 0
      | true ↦ elim (is_value (classified code optional raw)) [
        | true ↦ bits (length (set_positions raw)) (first_or 64 (set_positions raw))
        | false ↦ refused 42 0
      ]
    ]
