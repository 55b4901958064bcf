-- The text of numbers with a space between two: with one number more, and as a line.
use mathlib.Core.Path.{◌≡◌, refl, sym}
use mathlib.Core.List.{List, [], ◌∷◌, ◌++◌, append_assoc}
use Prim.Native.Nat.{ℕ, zero, suc, ◌+◌, ◌-◌, ◌*◌, ◌≤◌, ◌<◌}
use native.Mathlib.Numerals.{add-one}
use native.Mathlib.Omega.{arith}
use Prim.Native.Char.{code}
use lib.ListN.{length, take, get_or}
use lib.Seq.{length-take-le, take-suc}
use Rattle.input.specs.Lines.{line_feed}
use Rattle.display.specs.Decimals.{digits_of}
use Rattle.report.specs.Text.{numbers_line}

-- Numbers with a space between two.
unfoldable pub spaced : List ℕ → List ℕ
spaced [] = []
spaced (n ∷ []) = digits_of n
spaced (n ∷ m ∷ ns) = digits_of n ++ code " " ∷ spaced (m ∷ ns)

-- What stands before number i: a space, but nothing before the first.
abbrev pub space_before : ℕ → List ℕ
space_before zero = []
space_before (suc i) = code " " ∷ []

pub space_is : (i : ℕ) → (i ≡ 0 → ⊥) → code " " ∷ [] ≡ space_before i
space_is zero some = absurd (some refl)
space_is (suc i) some = refl

-- The first number has no space before it, which makes room for LF.
pub space_fits : (i : ℕ) → i * 21 - 1 + length (space_before i) ≤ i * 21
space_fits zero = omega arith
space_fits (suc i) = omega arith

one_last : (ns : List ℕ) (m : ℕ) → spaced (ns ++ m ∷ []) ≡ spaced ns ++ space_before (length ns) ++ digits_of m
unfolding spaced
one_last [] m = refl
one_last (n ∷ []) m = sym (append_assoc (digits_of n) (code " " ∷ []) (digits_of m))
one_last (n ∷ k ∷ ns) m =
    let others = code " " ∷ spaced (k ∷ ns) in
    let space = space_before (length (k ∷ ns)) in
    rw (one_last (k ∷ ns) m, append_assoc (digits_of n) others space, append_assoc (digits_of n) (others ++ space) (digits_of m)) refl

-- One number more.
pub one_more : (ns : List ℕ) (i : ℕ) → i < length ns
    → spaced (take i ns) ++ space_before i ++ digits_of (get_or ns i 0) ≡ spaced (take (i + 1) ns)
one_more ns i h =
    let e : length (take i ns) ≡ i = length-take-le i ns (omega arith) in
    rw (add-one i, take-suc ns i 0, one_last (take i ns) (get_or ns i 0), e) refl

-- LF after the last number makes a line.
pub line_ended : (ns : List ℕ) → spaced ns ++ line_feed ∷ [] ≡ numbers_line ns
unfolding spaced numbers_line
line_ended [] = refl
line_ended (n ∷ []) = refl
line_ended (n ∷ m ∷ ns) = rw (← line_ended (m ∷ ns), append_assoc (digits_of n)) refl
