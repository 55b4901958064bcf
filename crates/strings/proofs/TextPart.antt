-- Laws of the text in a string's registers: it is their first part, found register by register.
use mathlib.Core.Path.{◌≡◌, refl, ap}
use mathlib.Core.Bool.{Bool, true, false, ◌&&◌}
use mathlib.Core.List.{List, [], ◌∷◌}
use Prim.Native.Nat.{ℕ, suc, ◌+◌, ◌-◌, ◌/◌, ◌%◌, ◌≤◌, ◌<◌}
use native.Mathlib.Numerals.{add-one}
use native.Mathlib.Omega.{arith}
use native.Mathlib.Decide.{dec_le}
use borrow.Author.Tests.{eq-eqb, ne_eqb, le-leb, lt-leb, leb-true}
use lib.Dec.{eqb, leb}
use lib.ListN.{length, get_or, take, drop, length-take, drop_of_length-le}
use lib.Seq.{drop-cons}
use Rattle.lists.proofs.TestOutcomes.{impossible}
use Rattle.registers.specs.Registers.{all_zero}
use Rattle.strings.specs.Text.{until_zero_byte, has_string, string_at, text_at}

-- The text is the first registers of the string, and no longer than it.
pub text_prefix : (rs : List ℕ) → until_zero_byte rs ≡ take (length (until_zero_byte rs)) rs
unfolding until_zero_byte
text_prefix [] = refl
text_prefix (r ∷ rs) = go (eqb (r / 256) 0) (eqb (r % 256) 0) (text_prefix rs)
  where
    go : (high low : Bool) → until_zero_byte rs ≡ take (length (until_zero_byte rs)) rs
        → ◌≡◌ {A = List ℕ} (elim high [ true ↦ [] | false ↦ elim low [ true ↦ r ∷ [] | false ↦ r ∷ until_zero_byte rs ] ])
        (take (length {A = ℕ} (elim high [ true ↦ [] | false ↦ elim low [ true ↦ r ∷ [] | false ↦ r ∷ until_zero_byte rs ] ])) (r ∷ rs))
    go true low ih = refl
    go false true ih = refl
    go false false ih = ap (λ (xs : List ℕ). r ∷ xs) ih

pub text_shorter : (rs : List ℕ) → length (until_zero_byte rs) ≤ length rs
text_shorter rs = omega (arith, ap length (text_prefix rs), length-take (length (until_zero_byte rs)) rs)

-- The text from register i on: that register ends it without being part of it, ends it as its last part, or is part of it.
module _ (rs : List ℕ) (i : ℕ) (h : i < length rs) where
  pub text_stops : get_or rs i 0 < 256 → length (until_zero_byte (drop i rs)) ≡ 0
  unfolding until_zero_byte
  text_stops e =
      let z : get_or rs i 0 / 256 ≡ 0 = omega arith in
      rw (drop-cons rs i 0 h) (simp (until_zero_byte, eq-eqb _ _ z))

  pub text_ends : 256 ≤ get_or rs i 0 → get_or rs i 0 % 256 ≡ 0 → length (until_zero_byte (drop i rs)) ≡ 1
  unfolding until_zero_byte
  text_ends e f =
      let z : get_or rs i 0 / 256 ≡ 0 → ⊥ = λ q. omega arith in
      rw (drop-cons rs i 0 h) (simp (until_zero_byte, ne_eqb _ _ z, eq-eqb _ _ f))

  pub text_on : 256 ≤ get_or rs i 0 → (get_or rs i 0 % 256 ≡ 0 → ⊥) → length (until_zero_byte (drop i rs)) ≡ suc (length (until_zero_byte (drop (i + 1) rs)))
  unfolding until_zero_byte
  text_on e f =
      let z : get_or rs i 0 / 256 ≡ 0 → ⊥ = λ q. omega arith in
      rw (drop-cons rs i 0 h, add-one i) (simp (until_zero_byte, ne_eqb _ _ z, ne_eqb _ _ f))

-- At the end of the registers.
pub text_end : (rs : List ℕ) (i : ℕ) → length rs ≤ i → length (until_zero_byte (drop i rs)) ≡ 0
unfolding until_zero_byte
text_end rs i h = rw (drop_of_length-le rs h)

-- The cases of `text_at`: the fallback or the text.
module _ (map : List ℕ) (address size : ℕ) (fallback : List ℕ) where
  pub no_string : has_string (length map) address size ≡ false → text_at map address size fallback ≡ fallback
  unfolding text_at
  no_string e = simp (text_at, e)

  module _ (string : List ℕ) (is : string ≡ string_at map address size) (has : has_string (length map) address size ≡ true) where
    pub string_of_zeros : all_zero string ≡ true → text_at map address size fallback ≡ fallback
    unfolding text_at
    string_of_zeros e = simp (text_at, has, ← is, e)

    pub string_shown : all_zero string ≡ false → text_at map address size fallback ≡ until_zero_byte string
    unfolding text_at
    string_shown e = simp (text_at, has, ← is, e)

-- A string lies in the map if its address is at most the map's length less its size.
pub string_end : (registers address size : ℕ) → size ≤ registers → leb address (registers - size) ≡ leb (address + size) registers
string_end registers address size h = go (dec_le (address + size) registers)
  where
    go : Dec (address + size ≤ registers) → leb address (registers - size) ≡ leb (address + size) registers
    go (yes a) = rw (le-leb (address + size) registers a, le-leb address (registers - size) (omega arith))
    go (no a) = rw (lt-leb (address + size) registers (omega arith), lt-leb address (registers - size) (omega arith))

pub string_lies : (registers address size : ℕ) → has_string registers address size ≡ true → address + size ≤ registers
string_lies registers address size e = go (leb 1 size) (leb size 64) (leb (address + size) registers) refl e
  where
    go : (a b c : Bool) → leb (address + size) registers ≡ c → (a && b && c) ≡ true → address + size ≤ registers
    go true true true q t = leb-true (address + size) registers q
    go true true false q t = impossible (cc)
    go true false c q t = impossible (cc)
    go false b c q t = impossible (cc)
