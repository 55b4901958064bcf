-- The ranges of refusal numbers: a catalog's are 1 to 11, a map's as a whole 20 and 21, a header's 22 to 26, a model's 27 to 29.
use mathlib.Core.Path.{◌≡◌, refl, ap, ◌∙◌}
use mathlib.Core.Bool.{Bool, true, false, not, ◌&&◌}
use mathlib.Core.List.{List, [], ◌∷◌}
use mathlib.Core.Option.{Option, none, some}
use Prim.Native.Nat.{ℕ, zero, suc, ◌%◌, ◌/◌, ◌≤◌}
use native.Mathlib.Omega.{arith}
use borrow.Author.Tests.{leb-true}
use lib.Dec.{eqb, leb, ltb}
use lib.ListN.{length, drop}
use Rattle.lists.specs.Tests.{first_broken}
use Rattle.lists.proofs.TestOutcomes.{impossible, by_test, both}
use Rattle.catalog_frames.specs.Frames.{Frame, frames}
use Rattle.catalog.specs.State.{State, start, next}
use Rattle.catalog.specs.Rules.{no_model, rules, run, fault}
use Rattle.catalog.specs.Checking.{Verdict, refused, check_from, checked}
use Rattle.register_map.specs.Headers as Headers
use Rattle.register_map.specs.Scan.{broken, scan_from, scan}
use Rattle.register_map.proofs.ScanSteps.{scan_model, scan_end, scan_refused}
use Rattle.layout.specs.Reading.{Fault, below_top_points, count_point_unimplemented, not_the_size, fault_number}

-- low ≤ n ≤ high.
abbrev pub Between : ℕ → ℕ → ℕ → Type 0
Between low high n = (low ≤ n) × (n ≤ high)

-- Are the numbers of these rules all from 3 to 10?
abbrev numbered : List (Bool × ℕ) → Bool
numbered [] = true
numbered (r ∷ rs) = (leb 3 r.1 && leb r.1 10) && numbered rs

-- So is the number of the first broken rule.
first_broken_lem : (rs : List (Bool × ℕ)) (n : ℕ) → numbered rs ≡ true → first_broken rs ≡ some n → Between 3 10 n
first_broken_lem [] n k = λ e. impossible (cc)
first_broken_lem (r ∷ rs) n k =
    let h = both (leb 3 r.1 && leb r.1 10) (numbered rs) k in
    let g = both (leb 3 r.1) (leb r.1 10) h.0 in
    let low = leb-true 3 r.1 g.0 in
    let high = leb-true r.1 10 g.1 in
    by_test (λ o. o ≡ some n → Between 3 10 n) r.0 (λ t e. let same : r.1 ≡ n = cc in (omega arith, omega arith))
    (λ t e. first_broken_lem rs n h.1 e)

-- A frame can break only rules 3 to 10.
rule_number : (s : State) (f : Frame) (fs : List Frame) (n : ℕ) → fault s f (run fs) ≡ some n → Between 3 10 n
rule_number s f fs n = first_broken_lem (rules s f (run fs)) n refl

-- A catalog's refusal has a number from 1 to 11.
module _ (n place : ℕ) where
  frames_number : (s : State) (i : ℕ) (fs : List Frame) → check_from s i fs ≡ refused n place → Between 1 11 n
  unfolding check_from
  frames_number s i [] =
      by_test (λ v. v ≡ refused n place → Between 1 11 n) (no_model s.open_groups)
      (λ t e. impossible (cc)) (λ t e. let same : 11 ≡ n = cc in (omega arith, omega arith))
  frames_number s i (f ∷ fs) = go (fault s f (run (f ∷ fs))) refl (frames_number (next s f) (suc i) fs)
    where
      go : (o : Option ℕ) → fault s f (run (f ∷ fs)) ≡ o
          → (check_from (next s f) (suc i) fs ≡ refused n place → Between 1 11 n)
          → elim o [ none ↦ check_from (next s f) (suc i) fs | some k ↦ refused k i ] ≡ refused n place → Between 1 11 n
      go none q later = later
      go (some k) q later = λ e.
          let same : k ≡ n = cc in
          let b = rule_number s f (f ∷ fs) k q in
          (omega arith, omega arith)

-- 1 and 2 come before any frame.
pub catalog_number : (n place : ℕ) (ws : List ℕ) → checked ws ≡ refused n place → Between 1 11 n
unfolding checked
catalog_number n place ws =
    let W : Verdict → Type 0 = λ v. v ≡ refused n place → Between 1 11 n in
    by_test W (eqb (length ws % 8) 0)
    (λ t. by_test W (ltb 4096 (length ws / 8)) (λ u e. let same : 2 ≡ n = cc in (omega arith, omega arith))
    (λ u. frames_number n place start 0 (frames ws)))
    (λ t e. let same : 1 ≡ n = cc in (omega arith, omega arith))

-- A map that is refused as a whole is refused by 20 or 21.
pub opening_number : (map : List ℕ) (n : ℕ) → Headers.opening map ≡ some n → Between 20 21 n
unfolding Headers.opening
opening_number map n =
    let W : Option ℕ → Type 0 = λ o. o ≡ some n → Between 20 21 n in
    by_test W (ltb 65536 (length map)) (λ t e. let same : 20 ≡ n = cc in (omega arith, omega arith))
    (λ t. by_test W (Headers.begins_with_sun_s map) (λ u e. impossible (cc))
    (λ u e. let same : 21 ≡ n = cc in (omega arith, omega arith)))

-- A header is refused by 22 to 26.
header_number : (first : Bool) (rest : List ℕ) (n : ℕ) → Headers.header_at first rest ≡ Headers.refused n → Between 22 26 n
header_number first [] n = λ e. let same : 22 ≡ n = cc in (omega arith, omega arith)
header_number first (id ∷ []) n = λ e. let same : 22 ≡ n = cc in (omega arith, omega arith)
header_number first (id ∷ len ∷ following) n =
    let W : Headers.Header → Type 0 = λ h. h ≡ Headers.refused n → Between 22 26 n in
    by_test W (first && not (eqb id 1)) (λ t e. let same : 23 ≡ n = cc in (omega arith, omega arith))
    (λ t. by_test W (eqb id 0) (λ u e. let same : 24 ≡ n = cc in (omega arith, omega arith))
    (λ u. by_test W (eqb id Headers.end_id)
    (λ v. by_test W (eqb len 0) (λ w e. impossible (cc))
    (λ w e. let same : 25 ≡ n = cc in (omega arith, omega arith)))
    (λ v. by_test W (eqb len 0) (λ w e. let same : 25 ≡ n = cc in (omega arith, omega arith))
    (λ w. by_test W (ltb (length following) len) (λ x e. let same : 26 ≡ n = cc in (omega arith, omega arith))
    (λ x e. impossible (cc))))))

-- So is the header at which the models of a map end.
ending_from : (k : ℕ) (first : Bool) (rest : List ℕ) (n : ℕ) → (scan_from k first rest).ending ≡ broken n → Between 22 26 n
unfolding scan_from
ending_from zero first rest n e = let same : 22 ≡ n = cc in (omega arith, omega arith)
ending_from (suc k) first rest n e = go (Headers.header_at first rest) refl (λ r. ending_from k false r n)
  where
    go : (h : Headers.Header) → Headers.header_at first rest ≡ h
        → ((r : List ℕ) → (scan_from k false r).ending ≡ broken n → Between 22 26 n) → Between 22 26 n
    go (Headers.model id len) q later = later (drop len (drop 2 rest)) (rw (scan_model k first rest q) at e)
    go Headers.end_marker q later =
        let f = rw (scan_end k first rest q) at e in impossible (cc)
    go (Headers.refused number) q later =
        let f = rw (scan_refused k first rest q) at e in
        let same : number ≡ n = cc in
        header_number first rest n (q ∙ ap Headers.refused same)

pub ending_number : (map : List ℕ) (n : ℕ) → (scan map).ending ≡ broken n → Between 22 26 n
unfolding scan
ending_number map n = ending_from (length map) true (drop 2 map) n

-- A model is refused by 27 to 29.
pub model_number : (fault : Fault) → Between 27 29 (fault_number fault)
model_number below_top_points = (omega arith, omega arith)
model_number count_point_unimplemented = (omega arith, omega arith)
model_number not_the_size = (omega arith, omega arith)
