-- The depth of a number in groups, and the instance numbers of a path that count at this depth.
use mathlib.Core.Path.{◌≡◌, refl, sym, ◌∙◌}
use mathlib.Core.Bool.{Bool, true, false, ◌&&◌}
use mathlib.Core.List.{List, [], ◌∷◌}
use Prim.Native.Nat.{ℕ, zero, suc, ◌+◌, ◌-◌, ◌≤◌, ◌<◌}
use native.Mathlib.Omega.{arith}
use borrow.Author.Tests.{eq-eqb, eqb-true}
use lib.Dec.{eqb}
use lib.ListN.{length, drop, get_or, set}
use lib.Seq.{get_or-set_other}
use Rattle.lists.specs.Members.{among, Distinct}
use Rattle.lists.proofs.TestOutcomes.{clash, both}
use Rattle.catalog_frames.specs.Frames.{Point, Head}
use Rattle.model_definitions.specs.Definitions.{Groups, no_group, group, point_frames, group_frames}
use Rattle.model_definitions.specs.Soundness.{numbers_of}
use Rattle.model_definitions.proofs.GroupNumbers.{Apart, apart, NoneOf, none_of_parts}
use Rattle.layout.specs.Paths.{depth_in, agree_to}

-- ---- Paths

-- The three instance numbers of a path, 0 where absent.
abbrev pub levels : List ℕ → List ℕ
levels path = get_or path 0 0 ∷ get_or path 1 0 ∷ get_or path 2 0 ∷ []

-- A path of three numbers has no others.
pub three_numbers : (path : List ℕ) → length path ≡ 3 → levels path ≡ path
three_numbers [] l = absurd (omega (arith, l))
three_numbers (x ∷ []) l = absurd (omega (arith, l))
three_numbers (x ∷ y ∷ []) l = absurd (omega (arith, l))
three_numbers (x ∷ y ∷ z ∷ []) l = refl
three_numbers (x ∷ y ∷ z ∷ u ∷ us) l = absurd (omega (arith, l))

-- Three numbers that agree one by one agree as a list.
pub same_three : (a b c x y z : ℕ) → eqb a x && (eqb b y && eqb c z) ≡ true → a ∷ b ∷ c ∷ [] ≡ x ∷ y ∷ z ∷ []
same_three a b c x y z e =
    let f = both (eqb a x) (eqb b y && eqb c z) e in
    let g = both (eqb b y) (eqb c z) f.1 in
    let one = eqb-true a x f.0 in
    let two = eqb-true b y g.0 in
    let three = eqb-true c z g.1 in
    λ k. one k ∷ two k ∷ three k ∷ []

-- A path agrees with itself.
pub agree_itself : (n : ℕ) (path : List ℕ) → agree_to n path path ≡ true
agree_itself zero path = refl
agree_itself (suc n) [] = refl
agree_itself (suc n) (x ∷ path) = rw (eq-eqb x x refl) (agree_itself n path)

-- Paths that agree in n + 1 numbers have the same first number, and their rests agree in n.
pub agree_first : (n : ℕ) (xs ys : List ℕ) → length xs ≡ length ys → agree_to (suc n) xs ys ≡ true
    → (get_or xs 0 0 ≡ get_or ys 0 0) × (length (drop 1 xs) ≡ length (drop 1 ys)) × (agree_to n (drop 1 xs) (drop 1 ys) ≡ true)
agree_first n [] [] l e = (refl, refl, agree_itself n [])
agree_first n [] (y ∷ ys) l e = absurd (omega (arith, l))
agree_first n (x ∷ xs) [] l e = absurd (omega (arith, l))
agree_first n (x ∷ xs) (y ∷ ys) l e =
    let b = both (eqb x y) (agree_to n xs ys) e in (eqb-true x y b.0, omega (arith, l), b.1)

-- Agreement to n depends only on the first n numbers.
agree_near : (n : ℕ) (path xs ys : List ℕ) → length xs ≡ length ys → ((i : ℕ) → i < n → get_or xs i 0 ≡ get_or ys i 0)
    → agree_to n path xs ≡ agree_to n path ys
agree_near zero path xs ys l same = refl
agree_near (suc n) [] xs ys l same = refl
agree_near (suc n) (p ∷ path) [] [] l same = refl
agree_near (suc n) (p ∷ path) [] (y ∷ ys) l same = absurd (omega arith)
agree_near (suc n) (p ∷ path) (x ∷ xs) [] l same = absurd (omega arith)
agree_near (suc n) (p ∷ path) (x ∷ xs) (y ∷ ys) l same =
    let f : x ≡ y = same 0 (omega arith) in
    rw (f, agree_near n path xs ys (omega arith) (λ i h. same (suc i) (omega arith)))

-- So an instance number that is set after them changes nothing.
pub agree_beyond : (n : ℕ) (path around : List ℕ) (at j : ℕ) → n ≤ at
    → agree_to n path (levels (set around at j)) ≡ agree_to n path (levels around)
agree_beyond n path around at j h =
    agree_near n path (levels (set around at j)) (levels around) refl go
  where
    other : (i : ℕ) → i < n → get_or (set around at j) i 0 ≡ get_or around i 0
    other i l = get_or-set_other around at i j 0 (λ e. omega (arith, e))

    go : (i : ℕ) → i < n → get_or (levels (set around at j)) i 0 ≡ get_or (levels around) i 0
    go zero l = other 0 l
    go (suc zero) l = other 1 l
    go (suc (suc zero)) l = other 2 l
    go (suc (suc (suc i))) l = refl

-- ---- Groups

module _ (n : ℕ) (h : Head) (ps : List Point) (inside following : Groups) where
  -- The depth of a number of the group's own points,
  depth_own : among n (numbers_of (point_frames ps)) ≡ true → depth_in n (group h ps inside following) ≡ 1
  unfolding depth_in
  depth_own e = simp (depth_in, e)

  -- of the groups in it,
  depth_inside : among n (numbers_of (point_frames ps)) ≡ false → among n (numbers_of (group_frames inside)) ≡ true
      → depth_in n (group h ps inside following) ≡ suc (depth_in n inside)
  unfolding depth_in
  depth_inside a e = simp (depth_in, a, e)

  -- and of the groups after it.
  depth_after : among n (numbers_of (point_frames ps)) ≡ false → among n (numbers_of (group_frames inside)) ≡ false
      → depth_in n (group h ps inside following) ≡ depth_in n following
  unfolding depth_in
  depth_after a e = simp (depth_in, a, e)

-- A number that none of the groups has has depth 0.
pub absent_depth : (n : ℕ) (g : Groups) → among n (numbers_of (group_frames g)) ≡ false → depth_in n g ≡ 0
unfolding depth_in
absent_depth n no_group e = refl
absent_depth n (group h ps inside following) e =
    let none = none_of_parts n h ps inside following e in
    depth_after n h ps inside following none.of_points none.of_inside ∙ absent_depth n following none.of_following

-- If one of these groups, at `level`, has the number n, then its depth in the model is k.
abbrev pub Deep : ℕ → ℕ → ℕ → Groups → Type 0
Deep n k level g = among n (numbers_of (group_frames g)) ≡ true → k ≡ level - 2 + depth_in n g

module _ (n k level : ℕ) (h : Head) (ps : List Point) (inside following : Groups)
    (distinct : Distinct (numbers_of (group_frames (group h ps inside following)))) (low : 2 ≤ level)
    (deep : Deep n k level (group h ps inside following)) where
  -- The numbers of the group's parts are disjoint.
  separate : Apart ps inside following
  separate = apart ps inside following distinct.1

  -- The group has the number if it is not absent from all of its parts.
  one_of : (NoneOf n ps inside following → ⊥) → among n (numbers_of (group_frames (group h ps inside following))) ≡ true
  one_of some = go (among n (numbers_of (group_frames (group h ps inside following)))) refl
    where
      go : (b : Bool) → among n (numbers_of (group_frames (group h ps inside following))) ≡ b → b ≡ true
      go true e = refl
      go false e = absurd (some (none_of_parts n h ps inside following e))

  -- The depth of one of the group's own points.
  pub own_depth : among n (numbers_of (point_frames ps)) ≡ true → k ≡ suc level - 2
  own_depth e =
      let whole = deep (one_of (λ none. clash (sym e ∙ none.of_points))) in
      omega (arith, whole, depth_own n h ps inside following e)

  -- The depth in the groups in it,
  pub inside_deep : Deep n k (suc level) inside
  inside_deep e =
      let whole = deep (one_of (λ none. clash (sym e ∙ none.of_inside))) in
      omega (arith, whole, depth_inside n h ps inside following (separate.inside_points n e) e)

  -- and in the groups after it.
  pub following_deep : Deep n k level following
  following_deep e =
      let whole = deep (one_of (λ none. clash (sym e ∙ none.of_following))) in
      omega (arith, whole, depth_after n h ps inside following (separate.following_points n e) (separate.following_inside n e))
