-- The points that a reference names, and the search for the first uncounted group, step by step.
use mathlib.Core.Path.{◌≡◌, refl, sym, ap, ◌∙◌}
use mathlib.Core.Bool.{Bool, true, false, ◌&&◌, ◌||◌}
use mathlib.Core.List.{List, [], ◌∷◌}
use Prim.Native.Nat.{ℕ, zero, suc, ◌+◌, ◌-◌, ◌/◌, ◌≤◌, ◌<◌}
use native.Mathlib.Omega.{arith}
use borrow.Author.Tests.{eqb-true, eqb-false, eq-eqb, ne_eqb}
use lib.Dec.{eqb}
use lib.ListN.{length, take}
use Rattle.std.specs.Prelude.{Option, Some, None, find, take_while}
use Rattle.std.specs.List.{prefix_len, range_with_len}
use mathlib.Core.Bool.{cond, not}
use Rattle.number_sets.specs.NumberSets.{in_set, Marks, Blank}
use Rattle.catalog_frames.specs.Frames.{Point, uint16, read_only}
use Rattle.catalog.specs.Rules.{run}
use Rattle.catalog_frames.specs.InternalWords.{point_words}
use Rattle.catalog.specs.InternalScans.{frames_onward, is_model, is_target, is_of_kind}
use Rattle.catalog.specs.InternalMarks.{Counted, in_run, is_uncounted, uncounted_from}
use Rattle.catalog.specs.declared.scans.Target.{Target}

-- ---- Points

-- A reference names a point if and only if the point has the number and the kind.
pub target_is : (x : Target) (n : ℕ) (p : Point) → is_target x n p ≡ eqb p.number n && is_of_kind x p
target_is Target.ScaleFactor n p = refl
target_is Target.CountPoint n p = go (eqb p.number n) (eqb p.type_code uint16) (eqb p.access read_only)
  where
    go : (a b c : Bool) → (a && b) && c ≡ a && (b && c)
    go true b c = refl
    go false b c = refl

and-false : (a : Bool) → a && false ≡ false
and-false true = refl
and-false false = refl

and-true : (a : Bool) → a && true ≡ a
and-true true = refl
and-true false = refl

pub swapped : (m n : ℕ) → eqb m n ≡ eqb n m
swapped m n = go (eqb m n) refl
  where
    go : (b : Bool) → eqb m n ≡ b → b ≡ eqb n m
    go true e = sym (eq-eqb n m (sym (eqb-true m n e)))
    go false e = sym (ne_eqb n m (λ q. eqb-false m n e (sym q)))

pub other_kind : (x : Target) (n : ℕ) (p : Point) → is_of_kind x p ≡ false → is_target x n p ≡ false
other_kind x n p e = target_is x n p ∙ ap (λ b. eqb p.number n && b) e ∙ and-false (eqb p.number n)

pub same_kind : (x : Target) (n : ℕ) (p : Point) → is_of_kind x p ≡ true → eqb n p.number ≡ is_target x n p
same_kind x n p e =
    swapped n p.number ∙ sym (target_is x n p ∙ ap (λ b. eqb p.number n && b) e ∙ and-true (eqb p.number n))

-- An empty run, and a run with a point.
module _ (ws : List ℕ) (j : ℕ) (x : Target) (n : ℕ) where
  pub no_run : run (frames_onward ws j) ≡ [] → in_run ws j x n ≡ false
  no_run e = rw e

  pub run_more : run (frames_onward ws j) ≡ point_words ws j ∷ run (frames_onward ws (j + 1))
      → in_run ws j x n ≡ is_target x n (point_words ws j) || in_run ws (j + 1) x n
  run_more e = rw e

-- ---- Counts

-- One step of a search up to a limit.
step : (found goes_on : ℕ → Bool) (j : ℕ) (js : List ℕ)
    → find found (take_while goes_on (j ∷ js))
    ≡ cond (goes_on j) (cond (found j) (Some j) (find found (take_while goes_on js))) None
step found goes_on j js = go (goes_on j)
  where
    go : (b : Bool) → find found (take (cond b (1 + prefix_len goes_on js) 0) (j ∷ js))
        ≡ cond b (cond (found j) (Some j) (find found (take_while goes_on js))) None
    go true =
        let e : 1 + prefix_len goes_on js ≡ suc (prefix_len goes_on js) = omega arith in
        ap (λ (m : ℕ). find found (take m (j ∷ js))) e
    go false = refl

module _ (ws counts : List ℕ) (j : ℕ) where
  search_step : (n : ℕ) → uncounted_from ws counts j (suc n)
      ≡ cond (not (is_model ws j)) (cond (is_uncounted ws counts j) (Some j) (uncounted_from ws counts (j + 1) n)) None
  unfolding uncounted_from
  search_step n = step (λ k. is_uncounted ws counts k) (λ k. not (is_model ws k)) j (range_with_len (j + 1) n)

  module _ (h : j < length ws / 8) (m : is_model ws j ≡ false) where
    more : length ws / 8 - j ≡ suc (length ws / 8 - (j + 1))
    more = omega arith

    pub stop_here : is_uncounted ws counts j ≡ true → uncounted_from ws counts j (length ws / 8 - j) ≡ Some j
    stop_here s = rw (more, search_step (length ws / 8 - (j + 1)), m, s)

    pub stop_later : is_uncounted ws counts j ≡ false
        → uncounted_from ws counts j (length ws / 8 - j) ≡ uncounted_from ws counts (j + 1) (length ws / 8 - (j + 1))
    stop_later s = rw (more, search_step (length ws / 8 - (j + 1)), m, s)

-- If the count points of a run are put into an empty set, the search with this set finds the first uncounted group.
pub counted_by : (ws before counts : List ℕ) (from : ℕ) (u : Option ℕ) → Blank before
    → Marks before counts (in_run ws from Target.CountPoint) true
    → u ≡ uncounted_from ws counts from (length ws / 8 - from) → Counted ws u from from
counted_by ws before counts from u z m e =
    record {
      counts = counts;
      holds = λ n h. m.has z.size n h ∙ go (in_run ws from Target.CountPoint n) (in_set before n) (z.none n h);
      is = e;
    }
  where
    go : (p s : Bool) → s ≡ false → ◌≡◌ {A = Bool} (elim p [ true ↦ true | false ↦ s ]) p
    go true s e = refl
    go false s e = e

-- The search finds no frame before the one where it begins.
pub found_from : (ws counts : List ℕ) (n j k : ℕ) → uncounted_from ws counts j n ≡ Some k → j ≤ k
unfolding uncounted_from
found_from ws counts zero j k e = absurd (cc)
found_from ws counts (suc n) j k e =
    go (is_model ws j) (is_uncounted ws counts j) (found_from ws counts n (j + 1) k) (sym (search_step ws counts j n) ∙ e)
  where
    go : (a b : Bool) → (uncounted_from ws counts (j + 1) n ≡ Some k → j + 1 ≤ k)
        → cond (not a) (cond b (Some j) (uncounted_from ws counts (j + 1) n)) None ≡ Some k → j ≤ k
    go true b h e = absurd (cc)
    go false true h e = let same : j ≡ k = cc in omega arith
    go false false h e = let later = h e in omega arith
