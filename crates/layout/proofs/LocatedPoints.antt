-- The first point of a model with a given number and instance path is the one that is located by arithmetic: at each level
-- only the instance with the path's number can have it.
use mathlib.Core.Path.{◌≡◌, refl, sym, ap, subst, ◌∙◌}
use mathlib.Core.Bool.{Bool, true, false, ◌&&◌, and-false, and-true}
use mathlib.Core.List.{List, [], ◌∷◌, ◌++◌}
use mathlib.Core.Option.{Option, none, some}
use Prim.Native.Nat.{ℕ, zero, suc, ◌+◌, ◌*◌, ◌-◌, ◌≤◌, ◌<◌}
use native.Mathlib.Nat.{suc-mul, zero-mul}
use native.Mathlib.Decide.{dec_le}
use native.Mathlib.Omega.{arith}
use borrow.Author.Tests.{eq-eqb, ne_eqb}
use lib.Dec.{eqb}
use lib.ListN.{length, get_or, set, drop, length-set}
use lib.Seq.{get_or-set_same, get_or-set_other}
use Rattle.lists.specs.Tests.{first_with}
use Rattle.registers.specs.Registers.{all_zero}
use Rattle.catalog_frames.specs.Frames.{Point, Head}
use Rattle.model_definitions.specs.Definitions.{Groups, no_group, group, Content, points_size}
use Rattle.model_definitions.specs.Soundness.{SoundGroups}
use Rattle.layout.specs.Points.{ModelPoint, Instance, point_at}
use Rattle.layout.specs.Layout.{groups_size, counts_of, points_at, instances, entered, groups_by, groups_at, no_instance, top_instance, content_at}
use Rattle.layout.specs.Paths.{is_point}
use Rattle.layout.specs.Locating.{Located, first_location, or_else, located_among, located_own, located_in, located}
use Rattle.layout.proofs.Depths.{three_numbers}
use Rattle.layout.proofs.LocatingSteps as steps

-- ---- Three numbers, and the first result of two

zero_first : (n : ℕ) → eqb 0 n ≡ eqb n 0
zero_first zero = refl
zero_first (suc n) = ne_eqb 0 (suc n) (λ e. absurd (omega arith)) ∙ sym (ne_eqb (suc n) 0 (λ e. absurd (omega arith)))

-- A number that is 0 equals `a` if and only if `a` is 0.
absent : (x a : ℕ) → x ≡ 0 → eqb x a ≡ eqb a 0
absent x a e = ap (λ n. eqb n a) e ∙ zero_first a

-- Three numbers of which the first m equal those of a path and the others are 0: they are the path's if and only if the path
-- is 0 from place m on.
three_tests : (x y z a b c m : ℕ) → (0 < m → x ≡ a) → (m ≤ 0 → x ≡ 0) → (1 < m → y ≡ b) → (m ≤ 1 → y ≡ 0) → (2 < m → z ≡ c)
    → (m ≤ 2 → z ≡ 0) → m ≤ 3 → (eqb x a && (eqb y b && eqb z c)) ≡ all_zero (drop m (a ∷ b ∷ c ∷ []))
three_tests x y z a b c zero x₁ x₀ y₁ y₀ z₁ z₀ l =
    rw (absent x a (x₀ (omega arith)), absent y b (y₀ (omega arith)), absent z c (z₀ (omega arith)), and-true (eqb c 0))
three_tests x y z a b c (suc zero) x₁ x₀ y₁ y₀ z₁ z₀ l =
    rw (eq-eqb x a (x₁ (omega arith)), absent y b (y₀ (omega arith)), absent z c (z₀ (omega arith)), and-true (eqb c 0))
three_tests x y z a b c (suc (suc zero)) x₁ x₀ y₁ y₀ z₁ z₀ l =
    rw (eq-eqb x a (x₁ (omega arith)), eq-eqb y b (y₁ (omega arith)), absent z c (z₀ (omega arith)), and-true (eqb c 0))
three_tests x y z a b c (suc (suc (suc zero))) x₁ x₀ y₁ y₀ z₁ z₀ l =
    rw (eq-eqb x a (x₁ (omega arith)), eq-eqb y b (y₁ (omega arith)), eq-eqb z c (z₁ (omega arith)))
three_tests x y z a b c (suc (suc (suc (suc m)))) x₁ x₀ y₁ y₀ z₁ z₀ l = absurd (omega arith)

pub or_none : (o : Option Located) → or_else o none ≡ o
or_none none = refl
or_none (some x) = refl

module _ (number : ℕ) (key : List ℕ) where
  -- The location of the first of these points with the number and the path of the key.
  abbrev find : List ModelPoint → Option Located
  find = first_location number key

  find_append : (xs ys : List ModelPoint) → find (xs ++ ys) ≡ or_else (find xs) (find ys)
  unfolding first_with
  find_append [] ys = refl
  find_append (x ∷ xs) ys = go (is_point number key x) (find_append xs ys)
    where
      L : Option ModelPoint → Option Located
      L o = elim o [ none ↦ none | some p ↦ some (record { offset = p.offset; definition = p.definition }) ]

      go : (b : Bool) → find (xs ++ ys) ≡ or_else (find xs) (find ys)
          → L (elim b [ true ↦ some x | false ↦ first_with (is_point number key) (xs ++ ys) ])
          ≡ or_else (L (elim b [ true ↦ some x | false ↦ first_with (is_point number key) xs ])) (find ys)
      go true i = refl
      go false i = i

  -- ---- Instances

  module _ (size : ℕ) (one : ℕ → ℕ → List ModelPoint) where
    -- If no instance has the point, it is not found.
    in_none : (n i offset : ℕ) → ((k at : ℕ) → i ≤ k → k < i + n → find (one k at) ≡ none)
        → find (instances n i offset size one) ≡ none
    unfolding instances first_with
    in_none zero i offset f = refl
    in_none (suc n) i offset f =
        find_append (one i offset) (instances n (suc i) (offset + size) size one)
        ∙ ap (λ o. or_else o (find (instances n (suc i) (offset + size) size one))) (f i offset (omega arith) (omega arith))
        ∙ in_none n (suc i) (offset + size) (λ k at l m. f k at (omega arith) (omega arith))

    -- If only instance j can have the point, it is found there: j is the number d places after i.
    in_one : (j : ℕ) → ((k at : ℕ) → (k ≡ j → ⊥) → find (one k at) ≡ none) → (n i d offset : ℕ) → i + d ≡ j → d < n
        → find (instances n i offset size one) ≡ find (one j (offset + d * size))
    unfolding instances
    in_one j others zero i d offset e l = absurd (omega arith)
    in_one j others (suc n) i zero offset e l =
        let here : i ≡ j = omega arith in
        let there : offset ≡ offset + zero * size = omega (arith, zero-mul size) in
        find_append (one i offset) (instances n (suc i) (offset + size) size one)
        ∙ ap (or_else (find (one i offset)))
        (in_none n (suc i) (offset + size) (λ k at m b. others k at (λ q. absurd (omega arith))))
        ∙ or_none (find (one i offset))
        ∙ ap (λ k. find (one k offset)) here
        ∙ ap (λ at. find (one j at)) there
    in_one j others (suc n) i (suc d) offset e l =
        let there : offset + size + d * size ≡ offset + suc d * size = omega (arith, suc-mul d size) in
        find_append (one i offset) (instances n (suc i) (offset + size) size one)
        ∙ ap (λ o. or_else o (find (instances n (suc i) (offset + size) size one)))
        (others i offset (λ q. absurd (omega arith)))
        ∙ in_one j others n (suc i) d (offset + size) (omega arith) (omega arith)
        ∙ ap (λ at. find (one j at)) there

  -- ---- Paths

  -- Are the three numbers of a path those of the key?
  abbrev same : List ℕ → Bool
  same path =
      eqb (get_or path 0 0) (get_or key 0 0) && (eqb (get_or path 1 0) (get_or key 1 0) && eqb (get_or path 2 0) (get_or key 2 0))

  -- The own points of an instance can be found if and only if its path is the key.
  own_found : (body : List ℕ) (i : Instance) (offset : ℕ) (ps : List Point)
      → find (points_at body i offset ps) ≡ elim (same i.path) [ true ↦ located_among number offset ps | false ↦ none ]
  unfolding first_with points_at point_at located_among
  own_found body i offset [] = go (same i.path)
    where
      go : (b : Bool) → ◌≡◌ {A = Option Located} none (elim b [ true ↦ none | false ↦ none ])
      go true = refl
      go false = refl
  own_found body i offset (p ∷ ps) = go (eqb p.number number) (same i.path) (own_found body i (offset + p.size) ps)
    where
      L : Option ModelPoint → Option Located
      L o = elim o [ none ↦ none | some p ↦ some (record { offset = p.offset; definition = p.definition }) ]

      go : (a b : Bool)
          → find (points_at body i (offset + p.size) ps)
          ≡ elim b [ true ↦ located_among number (offset + p.size) ps | false ↦ none ]
          → L (elim (a && b) [
            | true ↦ some (point_at body i offset p)
            | false ↦ first_with (is_point number key) (points_at body i (offset + p.size) ps)
          ])
          ≡ elim b [
            | true ↦ elim a [
              | true ↦ some (record { offset = offset; definition = p })
              | false ↦ located_among number (offset + p.size) ps
            ]
            | false ↦ none
          ]
      go true true r = refl
      go true false r = r
      go false true r = r
      go false false r = r

  -- A path with another number than the key at place k is not the key.
  not_same : (path : List ℕ) (k : ℕ) → k < 3 → (get_or path k 0 ≡ get_or key k 0 → ⊥) → same path ≡ false
  not_same path zero l n =
      ap (λ b. b && (eqb (get_or path 1 0) (get_or key 1 0) && eqb (get_or path 2 0) (get_or key 2 0)))
      (ne_eqb (get_or path 0 0) (get_or key 0 0) n)
  not_same path (suc zero) l n =
      ap (λ b. eqb (get_or path 0 0) (get_or key 0 0) && (b && eqb (get_or path 2 0) (get_or key 2 0)))
      (ne_eqb (get_or path 1 0) (get_or key 1 0) n)
      ∙ and-false (eqb (get_or path 0 0) (get_or key 0 0))
  not_same path (suc (suc zero)) l n =
      ap (λ b. eqb (get_or path 0 0) (get_or key 0 0) && (eqb (get_or path 1 0) (get_or key 1 0) && b))
      (ne_eqb (get_or path 2 0) (get_or key 2 0) n)
      ∙ ap (λ b. eqb (get_or path 0 0) (get_or key 0 0) && b) (and-false (eqb (get_or path 1 0) (get_or key 1 0)))
      ∙ and-false (eqb (get_or path 0 0) (get_or key 0 0))
  not_same path (suc (suc (suc k))) l n = absurd (omega arith)

  -- A path follows the key up to a place: it has the key's numbers before that place, and 0 from there on.
  record Follows (path : List ℕ) (place : ℕ) : Type 0 where
    three : length path ≡ 3
    before : (k : ℕ) → k < place → get_or path k 0 ≡ get_or key k 0
    zeros : (k : ℕ) → place ≤ k → get_or path k 0 ≡ 0

  module _ (long : length key ≡ 3) where
    -- Then it is the key if and only if the key is 0 from that place on.
    same_there : (path : List ℕ) (place : ℕ) → place ≤ 3 → Follows path place → same path ≡ all_zero (drop place key)
    same_there path place l f =
        three_tests (get_or path 0 0) (get_or path 1 0) (get_or path 2 0) (get_or key 0 0) (get_or key 1 0) (get_or key 2 0) place
        (f.before 0) (f.zeros 0) (f.before 1) (f.zeros 1) (f.before 2) (f.zeros 2) l
        ∙ ap (λ xs. all_zero (drop place xs)) (three_numbers key long)

    -- ---- Groups

    module _ (body : List ℕ) (count : Head → ℕ) where
      -- The points of an instance: its own, and those of the groups in it.
      abbrev in_instance : ℕ → Instance → ℕ → List Point → Groups → List ModelPoint
      in_instance level i at ps inside = points_at body i at ps ++ groups_at body count (suc level) i (at + points_size ps) inside

      find_instance : (level : ℕ) (i : Instance) (at : ℕ) (ps : List Point) (inside : Groups)
          → find (in_instance level i at ps inside)
          ≡ or_else (elim (same i.path) [ true ↦ located_among number at ps | false ↦ none ])
          (find (groups_at body count (suc level) i (at + points_size ps) inside))
      find_instance level i at ps inside =
          let lower = groups_at body count (suc level) i (at + points_size ps) inside in
          find_append (points_at body i at ps) lower ∙ ap (λ o. or_else o (find lower)) (own_found body i at ps)

      -- Where a number of the path before this level is not the key's, nothing is found: in an instance,
      none_in_instance : (level : ℕ) (i : Instance) (at : ℕ) (ps : List Point) (inside : Groups) (k : ℕ) → k < 3
          → (get_or i.path k 0 ≡ get_or key k 0 → ⊥)
          → find (groups_at body count (suc level) i (at + points_size ps) inside) ≡ none
          → find (in_instance level i at ps inside) ≡ none
      none_in_instance level i at ps inside k l n r =
          let F : Bool → Option Located = λ b. elim b [ true ↦ located_among number at ps | false ↦ none ] in
          find_instance level i at ps inside
          ∙ ap (or_else (F (same i.path))) r
          ∙ ap (λ b. or_else (F b) none) (not_same i.path k l n)

      -- and in all instances of groups.
      none_in : (gs : Groups) (level : ℕ) (i : Instance) (offset k : ℕ) → k < 3 → k < level - 2
          → (get_or i.path k 0 ≡ get_or key k 0 → ⊥) → find (groups_at body count level i offset gs) ≡ none
      unfolding groups_by entered first_with
      none_in no_group level i offset k l d n = refl
      none_in (group h ps inside next) level i offset k l d n =
          let size = points_size ps + groups_size count inside in
          let one : (ℕ → ℕ → List ModelPoint) = λ j at. in_instance level (entered body level j at ps i) at ps inside in
          let after = groups_at body count level i (offset + count h * size) next in
          let still : (j : ℕ) → get_or (set i.path (level - 2) j) k 0 ≡ get_or key k 0 → ⊥ = λ j q.
          n (sym (get_or-set_other i.path (level - 2) k j 0 (λ z. absurd (omega arith))) ∙ q) in
          find_append (instances (count h) 0 offset size one) after
          ∙ ap (λ o. or_else o (find after)) (in_none size one (count h) 0 offset (λ j at a b.
          none_in_instance level (entered body level j at ps i) at ps inside k l (still j)
          (none_in inside (suc level) (entered body level j at ps i) (at + points_size ps) k l (omega arith) (still j))))
          ∙ none_in next level i (offset + count h * size) k l d n

      -- One level deeper, the path of the instance with the key's number follows the key.
      follows_in : (path : List ℕ) (level : ℕ) → 2 ≤ level → level ≤ 4 → Follows path (level - 2)
          → Follows (set path (level - 2) (get_or key (level - 2) 0)) (level - 1)
      follows_in path level a b f =
          let m = level - 2 in
          let j = get_or key m 0 in
          record {
            three = length-set path m j ∙ f.three;
            before = λ k l.
                elim (dec_le m k) [
                  | yes h ↦ let e : m ≡ k = omega arith in
                      ap (λ n. get_or (set path m j) n 0) (sym e)
                      ∙ get_or-set_same path m j 0 (omega (arith, f.three))
                      ∙ ap (λ n. get_or key n 0) e
                  | no h ↦ get_or-set_other path m k j 0 (λ q. absurd (h (omega arith))) ∙ f.before k (omega arith)
                ];
            zeros = λ k l. get_or-set_other path m k j 0 (λ q. absurd (omega arith)) ∙ f.zeros k (omega arith);
          }

      -- The point found in groups is the located one.
      found_in : (top enclosing : List Point) (gs : Groups) (level : ℕ) (i : Instance) (offset : ℕ) → 2 ≤ level
          → SoundGroups top enclosing level gs → Follows i.path (level - 2)
          → find (groups_at body count level i offset gs) ≡ located_in count number key level offset gs
      unfolding groups_by entered located_in first_with
      found_in top enclosing no_group level i offset two e f = refl
      found_in top enclosing (group h ps inside next) level i offset two e f =
          let size = points_size ps + groups_size count inside in
          let m = level - 2 in
          let j = get_or key m 0 in
          let four = e.0.level_in_range in
          let one : (ℕ → ℕ → List ModelPoint) = λ n at. in_instance level (entered body level n at ps i) at ps inside in
          let after = groups_at body count level i (offset + count h * size) next in
          let rest : find after ≡ located_in count number key level (offset + count h * size) next =
          found_in top enclosing next level i (offset + count h * size) two e.4 f in
          let other : (n : ℕ) → (n ≡ j → ⊥) → get_or (set i.path m n) m 0 ≡ get_or key m 0 → ⊥ = λ n z q.
          z (sym (get_or-set_same i.path m n 0 (omega (arith, f.three, four))) ∙ q) in
          let others : (n at : ℕ) → (n ≡ j → ⊥) → find (one n at) ≡ none = λ n at z.
          none_in_instance level (entered body level n at ps i) at ps inside m (omega (arith, four)) (other n z)
          (none_in inside (suc level) (entered body level n at ps i) (at + points_size ps) m (omega (arith, four)) (omega arith)
          (other n z)) in
          let deeper : Follows (set i.path m j) (level - 1) = follows_in i.path level two four f in
          let place : level - 1 ≡ suc level - 2 = omega arith in
          let F : ℕ → Bool → Option Located = λ at b. elim b [ true ↦ located_among number at ps | false ↦ none ] in
          let own : (at : ℕ) → find (one j at)
          ≡ or_else (located_own number key level at ps) (located_in count number key (suc level) (at + points_size ps) inside) = λ at.
          find_instance level (entered body level j at ps i) at ps inside
          ∙ ap (or_else (F at (same (set i.path m j))))
          (found_in top (ps ++ enclosing) inside (suc level) (entered body level j at ps i) (at + points_size ps) (omega arith) e.3
          (subst (Follows (set i.path m j)) place deeper))
          ∙ ap (λ b. or_else (F at b) (located_in count number key (suc level) (at + points_size ps) inside))
          (same_there (set i.path m j) (level - 1) (omega (arith, four)) deeper) in
          find_append (instances (count h) 0 offset size one) after
          ∙ ap (or_else (find (instances (count h) 0 offset size one))) rest
          ∙ elim (dec_le (suc j) (count h)) [
            | yes l ↦ ap (λ o. or_else o (located_in count number key level (offset + count h * size) next))
                (in_one size one j others (count h) 0 j offset (omega arith) l ∙ own (offset + j * size))
                ∙ sym (steps.instance_there count number key level offset h ps inside next j refl l)
            | no n ↦ ap (λ o. or_else o (located_in count number key level (offset + count h * size) next))
                (in_none size one (count h) 0 offset (λ k at a b. others k at (λ q. absurd (n (omega arith)))))
                ∙ sym (steps.no_instance_lem count number key level offset h ps inside next j refl (omega (arith, n)))
          ]

    -- ---- A whole model

    -- The path of the top group follows any key.
    follows_top : Follows no_instance 0
    follows_top = record { three = refl; before = λ k l. absurd (omega arith); zeros = λ k l. all_zeros k }
      where
        all_zeros : (k : ℕ) → get_or no_instance k 0 ≡ 0
        all_zeros zero = refl
        all_zeros (suc zero) = refl
        all_zeros (suc (suc zero)) = refl
        all_zeros (suc (suc (suc k))) = refl

    -- The same for the points of the top group,
    pub top_found : (body : List ℕ) (i : Instance) (offset : ℕ) (ps : List Point) → i.path ≡ no_instance
        → find (points_at body i offset ps) ≡ located_own number key 1 offset ps
    top_found body i offset ps e =
        own_found body i offset ps
        ∙ ap (λ b. elim b [ true ↦ located_among number offset ps | false ↦ none ])
        (ap same e ∙ same_there no_instance 0 (omega arith) follows_top)

    -- for its groups,
    pub groups_found : (body : List ℕ) (count : Head → ℕ) (top enclosing : List Point) (gs : Groups) (i : Instance) (offset : ℕ)
        → i.path ≡ no_instance → SoundGroups top enclosing 2 gs
        → find (groups_at body count 2 i offset gs) ≡ located_in count number key 2 offset gs
    groups_found body count top enclosing gs i offset e s =
        found_in body count top enclosing gs 2 i offset (omega arith) s (subst (λ p. Follows p 0) (sym e) follows_top)

    -- and for both.
    pub content_found : (c : Content) (body : List ℕ) (top enclosing : List Point) → SoundGroups top enclosing 2 c.groups
        → find (content_at c body) ≡ located (counts_of c body) number key c
    unfolding content_at
    content_found c body top enclosing s =
        let i = top_instance c.points body in
        let lower = groups_at body (counts_of c body) 2 i (points_size c.points) c.groups in
        find_append (points_at body i 0 c.points) lower
        ∙ ap (λ o. or_else o (find lower)) (top_found body i 0 c.points refl)
        ∙ ap (or_else (located_own number key 1 0 c.points))
        (groups_found body (counts_of c body) top enclosing c.groups i (points_size c.points) refl s)
