-- Laws of tests: what it means that they fail. A law with ↔ is read left to right by `.0` and right to left by `.1`.
use mathlib.Core.Path.{◌≡◌, refl, sym, ap, ◌∙◌}
use mathlib.Core.Bool.{Bool, true, false, not, ◌&&◌, ◌||◌}
use mathlib.Core.List.{List, [], ◌∷◌}
use mathlib.Core.Logic.Iff
use mathlib.Core.Logic.{◌↔◌}
use mathlib.Core.Option.{Option, none}
use Prim.Native.Nat.{ℕ}
use borrow.Author.Tests.{eqb-true, eq-eqb, not-false}
use lib.Dec.{eqb}
use Rattle.lists.specs.Each.{Each}
use Rattle.lists.specs.Tests.{one_holds, first_broken}
use Rattle.lists.proofs.TestOutcomes.{impossible, clash, by_test}

-- Neither of two tests holds.
pub neither : (a b : Bool) → (a || b ≡ false) ↔ ((a ≡ false) × (b ≡ false))
neither true b = (λ e. clash e, λ h. h.0)
neither false b = (λ e. (refl, e), λ h. h.1)

-- Two tests do not both hold: if the first holds, the second fails.
pub excludes : (a b : Bool) → (a && b ≡ false) ↔ (a ≡ true → b ≡ false)
excludes true b = (λ e t. e, λ h. h refl)
excludes false b = (λ e t. clash (sym t), λ h. refl)

-- A clause "in this case, `asked` must hold" is not broken: if n is the case, `asked` holds.
pub clause : (n case : ℕ) (asked : Bool) → (eqb n case && not asked ≡ false) ↔ (n ≡ case → asked ≡ true)
clause n case asked =
    let x = excludes (eqb n case) (not asked) in
    (λ e q. not-false asked (x.0 e (eq-eqb n case q)), λ h. x.1 (λ t. ap not (h (eqb-true n case t))))

-- None of these tests holds.
pub none_of : (ts : List Bool) → (one_holds ts ≡ false) ↔ Each (λ t. t ≡ false) ts
none_of [] = (λ e. tt, λ e. refl)
none_of (t ∷ ts) = Iff.trans (neither t (one_holds ts)) (Iff.and Iff.rfl (none_of ts))

-- None of these rules is broken.
pub none_broken : (rs : List (Bool × ℕ)) → (first_broken rs ≡ none) ↔ Each (λ r. r.0 ≡ false) rs
none_broken [] = (λ e. tt, λ e. refl)
none_broken (r ∷ rs) =
    let P : Option ℕ → Type 0 = λ o. (o ≡ none) ↔ ((r.0 ≡ false) × Each (λ q. q.0 ≡ false) rs) in
    let rest = none_broken rs in
    by_test P r.0 (λ t. (λ e. impossible (cc), λ h. clash (sym t ∙ h.0)))
    (λ f. (λ e. (f, rest.0 e), λ h. rest.1 h.1))
