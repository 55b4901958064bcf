-- The digits of words are read back as the same words.
use mathlib.Core.Path.{◌≡◌, refl}
use mathlib.Core.Bool.{true}
use mathlib.Core.List.{List, [], ◌∷◌}
use mathlib.Core.Option.{some}
use Prim.Native.Nat.{ℕ, ◌*◌, ◌/◌, ◌%◌, ◌<◌}
use native.Mathlib.Omega.{arith}
use Rattle.std.proofs.lemmas.Bool.Decides.{nat_tests}
use lib.ListN.{length}
use Rattle.registers.specs.Registers.{AreRegisters}
use Rattle.input.specs.Digits.{digit_value, is_digit, are_digits, digit_or0, word, words_of}
use Rattle.input.specs.Writing.{hex_digit, hex_digits}

-- A digit is read back.
digit_back : (v : ℕ) → v < 16 → digit_value (hex_digit v) ≡ some v
unfolding digit_value
digit_back v h = grind (arith, nat_tests)

-- A written digit is a digit and has its value.
module _ (v : ℕ) (h : v < 16) where
  digit_or_0 : digit_or0 (hex_digit v) ≡ v
  unfolding digit_or0
  digit_or_0 = rw (digit_or0, digit_back v h)

  is_digit_lem : is_digit (hex_digit v) ≡ true
  unfolding is_digit
  is_digit_lem = rw (is_digit, digit_back v h)

-- A word's four digits give the word.
word_back : (w : ℕ) → w < 65536
    → word (hex_digit (w / 4096)) (hex_digit (w / 256 % 16)) (hex_digit (w / 16 % 16)) (hex_digit (w % 16)) ≡ w
word_back w h =
    rw (
      digit_or_0 (w / 4096) (omega arith),
      digit_or_0 (w / 256 % 16) (omega arith),
      digit_or_0 (w / 16 % 16) (omega arith),
      digit_or_0 (w % 16) (omega arith),
    ) (omega arith)

-- The digits of words: the words read from them, that all are digits, and their number.
pub words_back : (ws : List ℕ) → AreRegisters ws → words_of (hex_digits ws) ≡ ws
unfolding words_of
words_back [] small = refl
words_back (w ∷ ws) small = simp (words_of, word_back w small.0, words_back ws small.1)

pub are_digits_lem : (ws : List ℕ) → AreRegisters ws → are_digits (hex_digits ws) ≡ true
are_digits_lem [] small = refl
are_digits_lem (w ∷ ws) small =
    let h = small.0 in
    simp (
      is_digit_lem (w / 4096) (omega arith),
      is_digit_lem (w / 256 % 16) (omega arith),
      is_digit_lem (w / 16 % 16) (omega arith),
      is_digit_lem (w % 16) (omega arith),
      are_digits_lem ws small.1,
    )

pub digits_length : (ws : List ℕ) → length (hex_digits ws) ≡ 4 * length ws
digits_length [] = refl
digits_length (w ∷ ws) = let e = digits_length ws in omega arith
