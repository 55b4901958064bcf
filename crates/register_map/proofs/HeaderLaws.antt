-- Laws of headers: the tests of a map as a whole, and the header at an address by its registers.
use mathlib.Core.Path.{◌≡◌, refl, sym, ap}
use mathlib.Core.Bool.{Bool, true, false, not, ◌&&◌, and-false}
use mathlib.Core.List.{List, [], ◌∷◌}
use mathlib.Core.Logic.{◌↔◌}
use mathlib.Core.Option.{Option, none, some}
use Prim.Native.Nat.{ℕ, suc, ◌+◌, ◌-◌, ◌≤◌, ◌<◌}
use native.Mathlib.Numerals.{add-one}
use native.Mathlib.Omega.{arith}
use borrow.Author.Tests.{eqb-true, eq-eqb, lt-ltb, le-ltb, ltb-false, not-false}
use lib.Dec.{eqb, ltb}
use lib.ListN.{length, drop, get_or, length-drop}
use lib.Seq.{drop-cons}
use Rattle.lists.proofs.TestOutcomes.{impossible, clash, by_test}
use Rattle.register_map.specs.Headers.{begins_with_sun_s, opening, refused, header_of, header_at}

-- The test for 23 fails if and only if the header has id 1 or is not the first.
pub first_id : (first : Bool) (id : ℕ) → (first && not (eqb id 1) ≡ false) ↔ (first ≡ true → id ≡ 1)
first_id true id = (λ e q. eqb-true id 1 (not-false (eqb id 1) e), λ h. ap not (eq-eqb id 1 (h refl)))
first_id false id = (λ e q. clash (sym q), λ h. refl)

-- The results for a map as a whole.
module _ (map : List ℕ) where
  pub opening_long : 65536 < length map → opening map ≡ some 20
  unfolding opening
  opening_long h = simp (opening, lt-ltb _ _ h)

  pub opening_without_sun_s_lem : length map ≤ 65536 → begins_with_sun_s map ≡ false → opening map ≡ some 21
  unfolding opening
  opening_without_sun_s_lem h e = simp (opening, le-ltb _ _ h, e)

  pub opening_with_sun_s_lem : length map ≤ 65536 → begins_with_sun_s map ≡ true → opening map ≡ none
  unfolding opening
  opening_with_sun_s_lem h e = simp (opening, le-ltb _ _ h, e)

  -- If neither 20 nor 21 arises, the map is short enough and begins with 5375 6E53.
  pub opening_none : opening map ≡ none → (length map ≤ 65536) × (begins_with_sun_s map ≡ true)
  unfolding opening
  opening_none e =
      let Goal : Option ℕ → Type 0 = λ o. o ≡ none → (length map ≤ 65536) × (begins_with_sun_s map ≡ true) in
      by_test Goal (ltb 65536 (length map)) (λ t q. impossible (cc)) (λ s.
      by_test Goal (begins_with_sun_s map) (λ t q. (ltb-false 65536 (length map) s, t))
      (λ f q. impossible (cc))) e

-- A map of under two registers does not begin with 5375 6E53.
pub too_short : (map : List ℕ) → length map < 2 → begins_with_sun_s map ≡ false
too_short [] h = refl
too_short (a ∷ []) h = and-false (eqb a 0x5375)
too_short (a ∷ b ∷ map) h = absurd (omega arith)

-- The header at an address, by its registers.
pub header_drop : (first : Bool) (map : List ℕ) (at : ℕ) → at + 2 ≤ length map
    → header_at first (drop at map) ≡ header_of first (get_or map at 0) (get_or map (at + 1) 0) (length map - at - 2)
header_drop first map at h =
    let f : at < length map = omega arith in
    let g : suc at < length map = omega arith in
    let e : length (drop (suc (suc at)) map) ≡ length map - at - 2 = simp length-drop (omega arith) in
    rw (drop-cons map at 0, drop-cons map (suc at) 0, add-one)
    (ap (header_of first (get_or map at 0) (get_or map (suc at) 0)) e)

-- 22 if under two registers are left.
header_none : (first : Bool) (rest : List ℕ) → length rest < 2 → header_at first rest ≡ refused 22
header_none first [] h = refl
header_none first (id ∷ []) h = refl
header_none first (id ∷ len ∷ remaining) h = absurd (omega arith)

-- 22 if under two registers are left from address `at` on.
pub header_late : (first : Bool) (map : List ℕ) (at : ℕ) → length map < at + 2 → header_at first (drop at map) ≡ refused 22
header_late first map at h = header_none first (drop at map) (simp length-drop (omega arith))
