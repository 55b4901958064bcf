-- Each number of a list is new with respect to those before it if and only if no number is there twice.
use mathlib.Core.Path.{◌≡◌, refl, sym}
use mathlib.Core.Bool.{false}
use mathlib.Core.List.{List, [], ◌∷◌}
use mathlib.Core.Logic.{◌↔◌}
use Prim.Native.Nat.{ℕ}
use borrow.Author.Tests.{eqb-false, ne_eqb}
use lib.Dec.{eqb}
use Rattle.lists.specs.Each.{Each}
use Rattle.lists.specs.Members.{among, Distinct}
use Rattle.lists.proofs.TestLaws.{neither}

-- Each of the numbers `ns` is neither among `used` nor among those before it in `ns`.
abbrev pub New : List ℕ → List ℕ → Type 0
New used [] = Unit {0}
New used (n ∷ ns) = (among n used ≡ false) × New (n ∷ used) ns

-- If m differs from n, n differs from m.
swapped : (m n : ℕ) → eqb m n ≡ false → eqb n m ≡ false
swapped m n e = ne_eqb n m (λ q. eqb-false m n e (sym q))

-- None of `ns` is used, with n used too, if and only if n is not among them and none of them was used before.
one_more_used : (n : ℕ) (used ns : List ℕ)
    → Each (λ m. among m (n ∷ used) ≡ false) ns ↔ ((among n ns ≡ false) × Each (λ m. among m used ≡ false) ns)
one_more_used n used [] = (λ u. (refl, tt), λ u. tt)
one_more_used n used (m ∷ ns) =
    let first = neither (eqb m n) (among m used) in
    let other = neither (eqb n m) (among n ns) in
    let rest = one_more_used n used ns in (
      λ u.
          let f = first.0 u.0 in
          let r = rest.0 u.1 in
          (other.1 (swapped m n f.0, r.0), (f.1, r.1)),
      λ u.
          let o = other.0 u.0 in
          (first.1 (swapped n m o.0, u.1.0), rest.1 (o.1, u.1.1)),
    )

-- The numbers `ns` are new if and only if they are distinct and none is among `used`.
new_numbers : (used ns : List ℕ) → New used ns ↔ (Distinct ns × Each (λ n. among n used ≡ false) ns)
new_numbers used [] = (λ w. (tt, tt), λ w. tt)
new_numbers used (n ∷ ns) =
    let rest = new_numbers (n ∷ used) ns in
    let more = one_more_used n used ns in (
      λ w.
          let r = rest.0 w.1 in
          let m = more.0 r.1 in
          ((m.0, r.0), (w.0, m.1)),
      λ w. (w.1.0, rest.1 (w.0.1, more.1 (w.0.0, w.1.1))),
    )

-- No number is in the empty list.
none_used : (ns : List ℕ) → Each (λ n. among n [] ≡ false) ns
none_used [] = tt
none_used (n ∷ ns) = (refl, none_used ns)

-- With no numbers used before, numbers are new if and only if they are distinct.
pub all_new : (ns : List ℕ) → New [] ns ↔ Distinct ns
all_new ns = (λ w. ((new_numbers [] ns).0 w).0, λ d. (new_numbers [] ns).1 (d, none_used ns))
