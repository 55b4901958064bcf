-- A test that computes: an order for which it holds rearranges the list.
use mathlib.Core.Path.{◌≡◌, refl, sym, ap, subst, ◌∙◌}
use mathlib.Core.Bool.{Bool, true, false, not, ◌&&◌, ◌||◌}
use mathlib.Core.List.{List, [], ◌∷◌}
use Prim.Native.Nat.{ℕ, ◌+◌, ◌<◌}
use native.Mathlib.Omega.{arith}
use borrow.Author.Tests.{eqb-true, ltb-true}
use lib.Dec.{eqb, ltb}
use lib.ListN.{length, get_or}
use Rattle.lists.specs.Members.{In, first, later, among}
use Rattle.lists.specs.Tests.{every}
use Rattle.lists.specs.Orders.{KeepsOrder, Rearranges}
use Rattle.lists.proofs.TestOutcomes.{clash, both}
use Rattle.lists.proofs.EachLaws.{each_implied, each_one}
use Rattle.lists.proofs.EveryLaws.{every_true}
use Rattle.lists.proofs.Positions.{positions_from, in_positions}

-- A number that is among others is a member.
among_in : (n : ℕ) (ns : List ℕ) → among n ns ≡ true → In n ns
among_in n [] e = clash (sym e)
among_in n (m ∷ ns) e = go (eqb n m) refl (among_in n ns)
  where
    go : (b : Bool) → eqb n m ≡ b → (among n ns ≡ true → In n ns) → In n (m ∷ ns)
    go true t rest = subst (λ k. In n (k ∷ ns)) (eqb-true n m t) first
    go false t rest = later (rest (sym (ap (λ b. b || among n ns) t) ∙ e))

module _ {A : Type 0} (same : A → A → Bool) (other : A) (xs : List A) where
  -- May position i come before j: is it lower, or do their elements differ?
  abbrev may_precede : ℕ → ℕ → Bool
  may_precede i j = not (same (get_or xs i other) (get_or xs j other)) || ltb i j

  -- Does the order keep that of elements that are the same?
  abbrev keeps_order : List ℕ → Bool
  keeps_order [] = true
  keeps_order (i ∷ order) = every (may_precede i) order && keeps_order order

  -- Does it rearrange the list?
  abbrev pub is_rearrangement : List ℕ → Bool
  is_rearrangement order =
      every (λ i. ltb i (length xs)) order
      && (every (λ i. among i order) (positions_from (length xs) 0) && keeps_order order)

  -- If it may and their elements are the same, it is lower.
  lower : (i j : ℕ) → may_precede i j ≡ true → same (get_or xs i other) (get_or xs j other) ≡ true → i < j
  lower i j e t = ltb-true i j (sym (ap (λ b. not b || ltb i j) t) ∙ e)

  -- If the test for an order holds, the order is kept.
  keeps_order_lem : (order : List ℕ) → keeps_order order ≡ true → KeepsOrder same other xs order
  keeps_order_lem [] e = tt
  keeps_order_lem (i ∷ order) e =
      let b = both (every (may_precede i) order) (keeps_order order) e in (
        each_implied (λ j. may_precede i j ≡ true) (λ j. same (get_or xs i other) (get_or xs j other) ≡ true → i < j) (lower i) order
            (every_true (may_precede i) order b.0),
        keeps_order_lem order b.1,
      )

  -- An order for which the test holds rearranges the list.
  pub tested : (order : List ℕ) → is_rearrangement order ≡ true → Rearranges same other xs order
  tested order e =
      let n = length xs in
      let all = every (λ i. among i order) (positions_from n 0) in
      let a = both (every (λ i. ltb i n) order) (all && keeps_order order) e in
      let b = both all (keeps_order order) a.1 in
      record {
        positions = each_implied (λ i. ltb i n ≡ true) (λ i. i < n) (λ i t. ltb-true i n t) order
            (every_true (λ i. ltb i n) order a.0);
        all = λ i h.
            let zero : 0 + i ≡ i = omega arith in
            among_in i order (each_one (λ k. among k order ≡ true) (positions_from n 0)
            (every_true (λ k. among k order) (positions_from n 0) b.0) i
            (subst (λ k. In k (positions_from n 0)) zero (in_positions n 0 i h)));
        keeps = keeps_order_lem order b.1;
      }
