-- Document 01, "Text", at its limits, computed: a size of 1 to 64 registers, and no further than the map.
use mathlib.Core.Path.{◌≡◌, refl}
use mathlib.Core.List.{List, [], ◌∷◌, map}
use Prim.Native.Nat.{ℕ}
use lib.ListN.{replicate}
use Rattle.strings.specs.Text.{until_zero_byte, text_at}

-- 66 registers "AA", and a fallback that is no part of them.
abbrev registers : List ℕ
registers = replicate 66 0x4141

abbrev fallback : List ℕ
fallback = 0x3F00 ∷ []

-- An address, a size, and the text there.
abbrev pub Line : Type 0
Line = ℕ × (ℕ × List ℕ)

unfoldable pub lines : List Line
lines =
    (0, (0, fallback))
    ∷ (0, (1, 0x4141 ∷ []))
    ∷ (0, (64, replicate 64 0x4141))
    ∷ (0, (65, fallback))
    ∷ (2, (64, replicate 64 0x4141))
    ∷ (3, (64, fallback))
    ∷ (65, (1, 0x4141 ∷ []))
    ∷ (65, (2, fallback))
    ∷ (66, (0, fallback))
    ∷ (66, (1, fallback))
    ∷ []

pub size_vectors : map (λ (l : Line). text_at registers l.0 l.1.0 fallback) lines ≡ map (λ (l : Line). l.1.1) lines
unfolding lines until_zero_byte text_at
size_vectors = refl

-- The four registers of a string, and its text.
unfoldable pub strings : List (List ℕ × List ℕ)
strings =
    (0x4142 ∷ 0x4344 ∷ 0x4546 ∷ 0x4748 ∷ [], 0x4142 ∷ 0x4344 ∷ 0x4546 ∷ 0x4748 ∷ [])  -- no zero byte
    ∷ (0x4142 ∷ 0x4300 ∷ 0x4546 ∷ 0 ∷ [], 0x4142 ∷ 0x4300 ∷ [])  -- only a low byte is zero
    ∷ (0x4142 ∷ 0x0043 ∷ 0x4546 ∷ 0 ∷ [], 0x4142 ∷ [])  -- a high byte is zero
    ∷ (0x0080 ∷ 0 ∷ 0 ∷ 0 ∷ [], [])  -- document 000's empty string
    ∷ (0 ∷ 0x4142 ∷ 0 ∷ 0 ∷ [], [])
    ∷ (0 ∷ 0 ∷ 0 ∷ 0 ∷ [], fallback)
    ∷ []

pub byte_vectors : map (λ (s : List ℕ × List ℕ). text_at s.0 0 4 fallback) strings ≡ map (λ (s : List ℕ × List ℕ). s.1) strings
unfolding strings until_zero_byte text_at
byte_vectors = refl
