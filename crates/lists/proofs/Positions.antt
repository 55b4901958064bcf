-- The positions of a list, and rising lists of them: where a member is, and the list without it.
use mathlib.Core.Path.{◌≡◌, refl, sym, ap, subst}
use mathlib.Core.List.{List, [], ◌∷◌, ◌++◌, map}
use mathlib.Core.Logic.{⊎_elim}
use Prim.Native.Nat.{ℕ, zero, suc, ◌+◌, ◌≤◌, ◌<◌}
use native.Mathlib.Omega.{arith}
use lib.ListN.{length, get_or, get_or-map}
use Rattle.lists.specs.Each.{Each, Ordered}
use Rattle.lists.specs.Members.{In, first, later}
use Rattle.lists.specs.Orders.{picked}
use Rattle.lists.proofs.EachLaws.{each_one, each_any}
use Rattle.lists.proofs.InLaws.{in_cases, in_later, not_in_none}

-- ---- Positions

-- The n positions from k on.
abbrev pub positions_from : ℕ → ℕ → List ℕ
positions_from zero k = []
positions_from (suc n) k = k ∷ positions_from n (suc k)

-- There are n of them,
pub positions_length : (n k : ℕ) → length (positions_from n k) ≡ n
positions_length zero k = refl
positions_length (suc n) k = ap suc (positions_length n (suc k))

-- each from k on and below k + n.
pub positions_within : (n k i : ℕ) → In i (positions_from n k) → (k ≤ i) × (i < k + n)
positions_within zero k i m = not_in_none i [] refl m
positions_within (suc n) k i m =
    ⊎_elim (λ (e : i ≡ k). (omega arith, omega arith))
    (λ j. let r = positions_within n (suc k) i j in let a = r.0 in let b = r.1 in (omega arith, omega arith))
    (in_cases i k (positions_from n (suc k)) m)

-- Each such position is one of them.
pub in_positions : (n k i : ℕ) → i < n → In (k + i) (positions_from n k)
in_positions zero k i h = absurd (omega arith)
in_positions (suc n) k zero h =
    let e : k ≡ k + 0 = omega arith in subst (λ j. In j (k ∷ positions_from n (suc k))) e first
in_positions (suc n) k (suc i) h =
    let e : suc k + i ≡ k + suc i = omega arith in
    later (subst (λ j. In j (positions_from n (suc k))) e (in_positions n (suc k) i (omega arith)))

-- A function that gives the elements of xs, the first of them at k, gives xs at the `length xs` positions from k on.
pub tabulated : {A : Type 0} (other : A) (f : ℕ → A) (xs : List A) (k : ℕ)
    → ((i : ℕ) → i < length xs → f (k + i) ≡ get_or xs i other) → map f (positions_from (length xs) k) ≡ xs
tabulated other f [] k e = refl
tabulated other f (x ∷ xs) k e =
    let here : f k ≡ x = let q : k + 0 ≡ k = omega arith in rw q at (e 0 (omega arith)) in
    let rest = tabulated other f xs (suc k) (λ i h.
    let q : k + suc i ≡ suc k + i = omega arith in
    rw q at (e (suc i) (omega arith))) in
    λ t. here t ∷ rest t

-- The elements at all positions are the list.
pub all_picked : {A : Type 0} (other : A) (xs : List A) → picked other xs (positions_from (length xs) 0) ≡ xs
all_picked other xs =
    tabulated other (λ i. get_or xs i other) xs 0 (λ i h. let e : 0 + i ≡ i = omega arith in ap (λ j. get_or xs j other) e)

-- Picking elements and then applying f to each is applying f to each and then picking.
pub map_picked : {A B : Type 0} (f : A → B) (other : A) (xs : List A) (order : List ℕ)
    → map f (picked other xs order) ≡ picked (f other) (map f xs) order
map_picked f other xs [] = refl
map_picked f other xs (i ∷ order) =
    let head = sym (get_or-map f xs i other) in
    let tail = map_picked f other xs order in
    λ k. head k ∷ tail k

-- ---- Rising positions

-- Each position is lower than those after it.
abbrev pub Rising : List ℕ → Type 0
Rising = Ordered (λ i j. i < j)

-- The positions from k on rise.
pub positions_rise : (n k : ℕ) → Rising (positions_from n k)
positions_rise zero k = tt
positions_rise (suc n) k = (
  each_any (λ j. k < j) (positions_from n (suc k)) (λ j m. let a = (positions_within n (suc k) j m).0 in omega arith),
  positions_rise n (suc k),
)

-- Where position i is in the rising list `is`: the positions before it are lower. Without i the list rises, and has all its other
-- members.
pub record Located (i : ℕ) (is : List ℕ) : Type 0 where
  pub preceding : List ℕ
  pub following : List ℕ
  pub splits : is ≡ preceding ++ i ∷ following
  pub lower : Each (λ j. j < i) preceding
  pub rises : Rising (preceding ++ following)
  pub kept : (k : ℕ) → In k is → (k ≡ i → ⊥) → In k (preceding ++ following)
  pub others : (k : ℕ) → In k (preceding ++ following) → In k is × (k ≡ i → ⊥)

-- Each member of a rising list is located so.
pub located : (i : ℕ) (is : List ℕ) → Rising is → In i is → Located i is
located i (j ∷ is) r first =
    record {
      preceding = [];
      following = is;
      splits = refl;
      lower = tt;
      rises = r.1;
      kept = λ k m n. in_later k i is m n;
      others = λ k m. let h = each_one (λ j. i < j) is r.0 k m in (later m, λ e. omega arith);
    }
located i (j ∷ is) r (later m) =
    let l = located i is r.1 m in
    let below = each_one (λ k. j < k) is r.0 in
    record {
      preceding = j ∷ l.preceding;
      following = l.following;
      splits = ap {B = List ℕ} (λ ks. j ∷ ks) l.splits;
      lower = (below i m, l.lower);
      rises = (each_any (λ k. j < k) (l.preceding ++ l.following) (λ k o. below k (l.others k o).0), l.rises);
      kept = λ k o n.
          ⊎_elim (λ (e : k ≡ j). subst (λ x. In x (j ∷ l.preceding ++ l.following)) (sym e) first)
          (λ p. later (l.kept k p n)) (in_cases k j is o);
      others = λ k o.
          ⊎_elim (λ (e : k ≡ j). (subst (λ x. In x (j ∷ is)) (sym e) first, λ q. let h = below i m in omega arith))
          (λ p. let q = l.others k p in (later q.0, q.1)) (in_cases k j (l.preceding ++ l.following) o);
    }
located i [] r h = elim h [ ]
