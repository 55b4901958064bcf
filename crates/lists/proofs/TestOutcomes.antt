-- A test by its two outcomes, two tests together, and what follows from a contradiction.
use mathlib.Core.Path.{◌≡◌, refl, sym}
use mathlib.Core.Bool.{Bool, true, false, ◌&&◌}
use Prim.Native.Nat.{ℕ}
use native.Mathlib.Omega.{arith}

-- From a contradiction anything follows. `impossible (cc)` ends a case whose equations contradict each other.
pub impossible : {A : Type 0} → ◌≡◌ {A = ℕ} 0 1 → A
impossible e = absurd (omega arith)

-- No test has both outcomes.
pub clash : {A : Type 0} → true ≡ false → A
clash e = impossible (cc)

-- A fact about both branches of a test holds of the branch that it picks.
pub by_test : {A : Type 0} (P : A → Type 0) (b : Bool) {x y : A} → (b ≡ true → P x) → (b ≡ false → P y)
    → P (elim b [ true ↦ x | false ↦ y ])
by_test P true t f = t refl
by_test P false t f = f refl

-- The same for two tests with the same outcome,
pub by_equal_tests : {A : Type 0} (P : A → A → Type 0) (b c : Bool) {x y u v : A} → b ≡ c → (b ≡ true → P x u) → (b ≡ false → P y v)
    → P (elim b [ true ↦ x | false ↦ y ]) (elim c [ true ↦ u | false ↦ v ])
by_equal_tests P true true e t f = t refl
by_equal_tests P false false e t f = f refl
by_equal_tests P true false e t f = clash e
by_equal_tests P false true e t f = clash (sym e)

-- and so for two branchings on one test.
pub by_same_test : {A : Type 0} (P : A → A → Type 0) (b : Bool) {x y u v : A} → (b ≡ true → P x u) → (b ≡ false → P y v)
    → P (elim b [ true ↦ x | false ↦ y ]) (elim b [ true ↦ u | false ↦ v ])
by_same_test P b t f = by_equal_tests P b b refl t f

-- If two tests hold together, each of them holds.
pub both : (a b : Bool) → a && b ≡ true → (a ≡ true) × (b ≡ true)
both true b e = (refl, e)
both false b e = clash (sym e)

-- A test whose success leads to a contradiction fails.
pub fails : (b : Bool) → (b ≡ true → true ≡ false) → b ≡ false
fails true f = f refl
fails false f = refl
