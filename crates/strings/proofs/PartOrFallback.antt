-- `text` returns the fallback or a part of the map that begins at the address.
use mathlib.Core.Path.{◌≡◌, refl, ◌∙◌}
use mathlib.Core.Bool.{Bool, true, false}
use mathlib.Core.Logic.{◌⊎◌, inl, inr}
use mathlib.Core.List.{List}
use Prim.Native.Nat.{ℕ, ◌≤◌}
use native.Mathlib.Omega.{arith}
use lib.ListN.{length, take, drop, length-take}
use lib.Seq.{take-take}
use Rattle.registers.specs.Registers.{all_zero}
use Rattle.strings.specs.Text.{until_zero_byte, has_string, string_at, text_at, PartOf}
use Rattle.strings.proofs.TextPart.{text_prefix, text_shorter, no_string, string_of_zeros, string_shown, string_lies}

module _ (map : List ℕ) (address size : ℕ) (fallback : List ℕ) where
  -- The claim.
  pub part_or_fallback : (text_at map address size fallback ≡ fallback) ⊎ PartOf map address size (text_at map address size fallback)
  part_or_fallback = by_place (has_string (length map) address size) refl
    where
      string : List ℕ
      string = string_at map address size

      by_zeros : has_string (length map) address size ≡ true → (b : Bool) → all_zero string ≡ b
          → (text_at map address size fallback ≡ fallback) ⊎ PartOf map address size (text_at map address size fallback)
      by_zeros h true z = inl (string_of_zeros map address size fallback string refl h z)
      by_zeros h false z = inr (record { count = length (until_zero_byte string); within = short; inside = omega (arith, short, string_lies (length map) address size h); is = shown })
        where
          short : length (until_zero_byte string) ≤ size
          short = omega (arith, text_shorter string, length-take size (drop address map))

          shown : text_at map address size fallback ≡ take (length (until_zero_byte string)) (drop address map)
          shown = string_shown map address size fallback string refl h z ∙ text_prefix string ∙ take-take (length (until_zero_byte string)) size (drop address map) short

      by_place : (b : Bool) → has_string (length map) address size ≡ b
          → (text_at map address size fallback ≡ fallback) ⊎ PartOf map address size (text_at map address size fallback)
      by_place true h = by_zeros h (all_zero string) refl
      by_place false h = inl (no_string map address size fallback h)
