-- A run in another order. If items that differ by a test can be exchanged, the run ends in the same state in every order that keeps the
-- order of items that are the same, and each item has the same result.
use mathlib.Core.Path.{◌≡◌, refl, sym, ap, subst, ◌∙◌}
use mathlib.Core.Bool.{Bool, true, false}
use mathlib.Core.List.{List, [], ◌∷◌, ◌++◌, map}
use Prim.Native.Nat.{ℕ, suc, ◌+◌, ◌<◌}
use native.Mathlib.Omega.{arith}
use borrow.Author.Tests.{ne_eqb}
use lib.Dec.{eqb}
use lib.ListN.{length, get_or}
use Rattle.lists.specs.Each.{Each}
use Rattle.lists.specs.Members.{In, first, later, among, Distinct}
use Rattle.lists.specs.Runs.{state_after, Handled, handled}
use Rattle.lists.specs.Orders.{picked, KeepsOrder, Rearranges}
use Rattle.lists.proofs.TestOutcomes.{fails}
use Rattle.lists.proofs.TestLaws.{neither}
use Rattle.lists.proofs.EachLaws.{each_one, each_any, ordered_implied}
use Rattle.lists.proofs.InLaws.{in_append_left, in_later, not_in_none}
use Rattle.lists.proofs.Positions.{positions_from, positions_length, positions_within, in_positions, all_picked, Rising, positions_rise, located}

-- ---- Taking positions out one by one

-- The positions `is` can be taken out in the order `order`, if each may change places with all those that are still before it.
data TakenOut (Exchange : ℕ → ℕ → Type 0) : List ℕ → List ℕ → Type 0 where
  all_taken : TakenOut Exchange [] []
  taken : {i : ℕ} {order is : List ℕ} (preceding following : List ℕ) → is ≡ preceding ++ i ∷ following → Each (Exchange i) preceding
      → TakenOut Exchange order (preceding ++ following) → TakenOut Exchange (i ∷ order) is

-- A list without members is empty.
no_members : (is : List ℕ) → ((k : ℕ) → In k is → In k []) → [] ≡ is
no_members [] f = refl
no_members (i ∷ is) f = not_in_none i [] refl (f i first)

-- The two lists have the same length.
taken_length : (Exchange : ℕ → ℕ → Type 0) (order is : List ℕ) → TakenOut Exchange order is → length order ≡ length is
taken_length Exchange [] [] all_taken = refl
taken_length Exchange (i ∷ order) is (taken preceding following splits exchange rest) =
    let l = taken_length Exchange order (preceding ++ following) rest in
    let n = one_more preceding following in
    ap suc l ∙ sym n ∙ ap length (sym splits)
  where
    one_more : (xs ys : List ℕ) → length (xs ++ i ∷ ys) ≡ suc (length (xs ++ ys))
    one_more [] ys = refl
    one_more (x ∷ xs) ys = ap suc (one_more xs ys)
taken_length Exchange [] (_ ∷ _) t = elim t [ ]

-- Each position below n is one of the first n.
position_there : (n i : ℕ) → i < n → In i (positions_from n 0)
position_there n i h =
    let none : 0 + i ≡ i = omega arith in
    subst (λ k. In k (positions_from n 0)) none (in_positions n 0 i h)

module _ {A : Type 0} (same : A → A → Bool) (itself : (x : A) → same x x ≡ true) (other : A) (xs : List A) where
  -- The element at a position.
  abbrev at : ℕ → A
  at i = get_or xs i other

  -- Positions whose elements differ may change places.
  abbrev Differ : ℕ → ℕ → Type 0
  Differ i j = same (at i) (at j) ≡ false

  -- A position does not come again after itself.
  once : (i : ℕ) (order : List ℕ) → Each (λ j. same (at i) (at j) ≡ true → i < j) order → (k : ℕ) → In k order → k ≡ i → ⊥
  once i order e k m q =
      let h = each_one (λ j. same (at i) (at j) ≡ true → i < j) order e k m (ap (λ j. same (at i) (at j)) q ∙ itself (at i)) in
      omega arith

  -- An order that keeps the order of elements that are the same takes its positions out of the rising list of them.
  takes_out : (order is : List ℕ) → Rising is → ((k : ℕ) → In k is → In k order) → ((k : ℕ) → In k order → In k is)
      → KeepsOrder same other xs order → TakenOut Differ order is
  takes_out [] is r there back keeps = subst (TakenOut Differ []) (no_members is there) all_taken
  takes_out (i ∷ order) is r there back keeps =
      let l = located i is r (back i first) in
      let after : (k : ℕ) → In k is → (k ≡ i → ⊥) → In k order = λ k m n. in_later k i order (there k m) n in
      let whole : (k : ℕ) → In k l.preceding → In k is = λ k m.
      subst (In k) (sym l.splits) (in_append_left k l.preceding (i ∷ l.following) m) in
      taken {i = i} {order = order} {is = is} l.preceding l.following l.splits
      (each_any (Differ i) l.preceding (λ j m.
      let lower = each_one (λ k. k < i) l.preceding l.lower j m in
      let later = each_one (λ k. same (at i) (at k) ≡ true → i < k) order keeps.0 j (after j (whole j m) (λ e. omega arith)) in
      fails (same (at i) (at j)) (λ t. let higher = later t in absurd (omega arith))))
      (takes_out order (l.preceding ++ l.following) l.rises
      (λ k m. let o = l.others k m in after k o.0 o.1)
      (λ k m. l.kept k (back k (later m)) (once i order keeps.0 k m)) keeps.1)

  module _ (order : List ℕ) (r : Rearranges same other xs order) where
    -- So every rearrangement of a list takes its positions out of all positions,
    rearranged : TakenOut Differ order (positions_from (length xs) 0)
    rearranged =
        let n = length xs in
        takes_out order (positions_from n 0) (positions_rise n 0)
        (λ k m. let below = (positions_within n 0 k m).1 in r.all k (omega arith))
        (λ k m. position_there n k (each_one (λ i. i < n) order r.positions k m)) r.keeps

    -- has the length of the list,
    pub same_length : length order ≡ length xs
    same_length = taken_length Differ order (positions_from (length xs) 0) rearranged ∙ positions_length (length xs) 0

    -- and no position occurs in it twice.
    pub each_once : Distinct order
    each_once = go order r.keeps
      where
        none : (i : ℕ) (is : List ℕ) → ((k : ℕ) → In k is → k ≡ i → ⊥) → among i is ≡ false
        none i [] f = refl
        none i (j ∷ is) f =
            (neither (eqb i j) (among i is)).1 (ne_eqb i j (λ e. f j first (sym e)), none i is (λ k m. f k (later m)))

        go : (is : List ℕ) → KeepsOrder same other xs is → Distinct is
        go [] k = tt
        go (i ∷ is) k = (none i is (once i is k.0), go is k.1)

  -- The order of the list itself is one of its rearrangements.
  pub own_order : Rearranges same other xs (positions_from (length xs) 0)
  own_order =
      let n = length xs in
      record {
        positions = each_any (λ i. i < n) (positions_from n 0) (λ i m. let below = (positions_within n 0 i m).1 in omega arith);
        all = position_there n;
        keeps = ordered_implied (λ i j. i < j) (λ i j. same (at i) (at j) ≡ true → i < j) (λ i j lower t. lower) (positions_from n 0)
            (positions_rise n 0);
      }

-- ---- Runs

module _ {S W R : Type 0} (step : S → W → S) (result : S → W → R) (Differs : W → W → Type 0)
    (result_stays : (s : S) (u v : W) → Differs u v → result (step s u) v ≡ result s v)
    (either_order : (s : S) (u v : W) → Differs u v → step (step s u) v ≡ step (step s v) u)
    (other_way : (u v : W) → Differs u v → Differs v u)
    (at : ℕ → W) where
  -- An item that differs from every item before it may be handled first: the state after the run is the same,
  first_state : (preceding : List ℕ) (i : ℕ) (following : List ℕ) (s : S) → Each (λ j. Differs (at i) (at j)) preceding
      → state_after step (step s (at i)) (map at (preceding ++ following)) ≡ state_after step s (map at (preceding ++ i ∷ following))
  unfolding state_after
  first_state [] i following s e = refl
  first_state (j ∷ preceding) i following s e =
      ap (λ t. state_after step t (map at (preceding ++ following))) (either_order s (at i) (at j) e.0)
      ∙ first_state preceding i following (step s (at j)) e.1

  -- and so is each result: if F gives the items with their results by position, it gives them also with that item first.
  first_results : (F : ℕ → Handled W R) (preceding : List ℕ) (i : ℕ) (following : List ℕ) (s : S)
      → Each (λ j. Differs (at i) (at j)) preceding
      → handled step result s (map at (preceding ++ i ∷ following)) ≡ map F (preceding ++ i ∷ following)
      → handled step result s (map at (i ∷ preceding ++ following)) ≡ map F (i ∷ preceding ++ following)
  unfolding handled
  first_results F [] i following s e q = q
  first_results F (j ∷ preceding) i following s e q =
      let with : W → R → Handled W R = λ w r. record { item = w; result = r } in
      let here : with (at j) (result s (at j)) ≡ F j = cc in
      let tail : handled step result (step s (at j)) (map at (preceding ++ i ∷ following)) ≡ map F (preceding ++ i ∷ following) = cc in
      let rest = first_results F preceding i following (step s (at j)) e.1 tail in
      let one : with (at i) (result (step s (at j)) (at i)) ≡ F i = cc in
      let own : with (at i) (result s (at i)) ≡ F i =
      ap (with (at i)) (sym (result_stays s (at j) (at i) (other_way (at i) (at j) e.0))) ∙ one in
      let next : with (at j) (result (step s (at i)) (at j)) ≡ F j = ap (with (at j)) (result_stays s (at i) (at j) e.0) ∙ here in
      let others : handled step result (step (step s (at j)) (at i)) (map at (preceding ++ following)) ≡ map F (preceding ++ following) = cc in
      let more = ap (λ t. handled step result t (map at (preceding ++ following))) (either_order s (at i) (at j) e.0) ∙ others in
      λ k. own k ∷ next k ∷ more k

  -- So every order in which items are taken out past others that differ from them ends in the same state, with the same results.
  in_any_order : (order is : List ℕ) → TakenOut (λ i j. Differs (at i) (at j)) order is → (s : S)
      → (state_after step s (map at order) ≡ state_after step s (map at is))
      × ((F : ℕ → Handled W R) → handled step result s (map at is) ≡ map F is → handled step result s (map at order) ≡ map F order)
  unfolding state_after handled
  in_any_order [] [] all_taken s = (refl, λ F q. q)
  in_any_order (i ∷ order) is (taken preceding following splits differ rest) s =
      let r = in_any_order order (preceding ++ following) rest (step s (at i)) in (
        r.0 ∙ first_state preceding i following s differ ∙ ap (λ l. state_after step s (map at l)) (sym splits),
        λ F q.
            let first = first_results F preceding i following s differ
            (ap (λ l. handled step result s (map at l)) (sym splits) ∙ q ∙ ap (map F) splits) in
            let own : record { item = at i; result = result s (at i) } ≡ F i = cc in
            let tail : handled step result (step s (at i)) (map at (preceding ++ following)) ≡ map F (preceding ++ following) = cc in
            let others = r.1 F tail in
            λ k. own k ∷ others k,
      )
  in_any_order [] (_ ∷ _) r s = elim r [ ]

-- A run has as many results as items.
handled_length : {S W R : Type 0} (step : S → W → S) (result : S → W → R) (ws : List W) (s : S)
    → length (handled step result s ws) ≡ length ws
unfolding handled
handled_length step result [] s = refl
handled_length step result (w ∷ ws) s = ap suc (handled_length step result ws (step s w))

-- If two items that differ leave the same state in either order, and handling one does not change the result of the other, then every
-- rearrangement of a run ends in the same state, and its items have the results that they have in the run. (The test for being the same
-- holds of each item and itself, and in both directions.)
pub same_run : {S W R : Type 0} (step : S → W → S) (result : S → W → R) (same : W → W → Bool)
    → ((w : W) → same w w ≡ true)
    → ((u v : W) → same u v ≡ false → same v u ≡ false)
    → ((s : S) (u v : W) → same u v ≡ false → result (step s u) v ≡ result s v)
    → ((s : S) (u v : W) → same u v ≡ false → step (step s u) v ≡ step (step s v) u)
    → (other : W) (ws : List W) (order : List ℕ) → Rearranges same other ws order → (s : S)
    → (state_after step s (picked other ws order) ≡ state_after step s ws)
    × ((none : Handled W R) → handled step result s (picked other ws order) ≡ picked none (handled step result s ws) order)
same_run step result same itself other_way stays either other ws order r s =
    let is = positions_from (length ws) 0 in
    let all = all_picked other ws in
    let run = in_any_order step result (λ u v. same u v ≡ false) stays either other_way (λ i. get_or ws i other) order is
    (rearranged same itself other ws order r) s in (
      run.0 ∙ ap (state_after step s) all,
      λ none.
          let whole = handled step result s ws in
          let n : length whole ≡ length ws = handled_length step result ws s in
          run.1 (λ i. get_or whole i none)
          (ap (handled step result s) all ∙ sym (all_picked none whole) ∙ ap (λ k. picked none whole (positions_from k 0)) n),
    )

-- ---- Results that depend on no other item

-- If handling an item changes the result of no item, each item of a run has the result that it has alone.
pub handled_alone : {S W R : Type 0} (step : S → W → S) (result : S → W → R)
    → ((s : S) (u v : W) → result (step s u) v ≡ result s v)
    → (ws : List W) (s : S) → handled step result s ws ≡ map (λ w. record { item = w; result = result s w }) ws
unfolding handled
handled_alone {S} {W} {R} step result stays [] s = refl
handled_alone {S} {W} {R} step result stays (w ∷ ws) s =
    let rest = handled_alone step result stays ws (step s w) ∙ all_stay ws in
    λ k. record { item = w; result = result s w } ∷ rest k
  where
    alone : S → W → Handled W R
    alone t v = record { item = v; result = result t v }

    all_stay : (vs : List W) → map (alone (step s w)) vs ≡ map (alone s) vs
    all_stay [] = refl
    all_stay (v ∷ vs) =
        let first = stays s w v in
        let others = all_stay vs in
        λ k. record { item = v; result = first k } ∷ others k
