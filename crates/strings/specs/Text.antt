-- Document 01, "Text": what is shown of the registers of a string.
use Rattle.std.specs.Prelude.{◌≡◌, Bool, true, false, ◌&&◌, List, [], ◌∷◌, ℕ, ◌+◌, ◌/◌, ◌%◌, ◌≤◌, eqb, leb, length, take, drop}
use Rattle.registers.specs.Registers.{all_zero}

-- The registers before the first with a zero byte, and that one too if only its low byte is zero; all if none has a zero byte.
unfoldable pub until_zero_byte : List ℕ → List ℕ
until_zero_byte [] = []
until_zero_byte (r ∷ rs) =
    elim (eqb (r / 256) 0) [
      | true ↦ []
      | false ↦ elim (eqb (r % 256) 0) [ true ↦ r ∷ [] | false ↦ r ∷ until_zero_byte rs ]
    ]

-- Does a map of `registers` registers have a string of `size` registers at `address`? The size is 1–64, and it ends within the map.
abbrev pub has_string : ℕ → ℕ → ℕ → Bool
has_string registers address size = leb 1 size && leb size 64 && leb (address + size) registers

-- The registers of the string.
abbrev pub string_at : List ℕ → ℕ → ℕ → List ℕ
string_at map address size = take size (drop address map)

-- The text of the string at an address; the fallback (document 01: "stand-in") if the map has no such string or only zeros in it.
unfoldable pub text_at : List ℕ → ℕ → ℕ → List ℕ → List ℕ
text_at map address size fallback =
    elim (has_string (length map) address size) [
      | false ↦ fallback
      | true ↦ elim (all_zero (string_at map address size)) [
        | true ↦ fallback
        | false ↦ until_zero_byte (string_at map address size)
      ]
    ]

-- A part of the map: `count` registers from the address on, no more than the string has.
pub record PartOf (map : List ℕ) (address size : ℕ) (part : List ℕ) : Type 0 where
  pub count : ℕ
  pub within : count ≤ size
  pub inside : address + count ≤ length map
  pub is : part ≡ take count (drop address map)
