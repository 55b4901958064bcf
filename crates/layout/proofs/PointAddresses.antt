-- The offset of a point of a model, by its number and the instance numbers of its path that lead to it.
use mathlib.Core.Path.{◌≡◌, refl, sym, ap, subst, ◌∙◌}
use mathlib.Core.Bool.{Bool, true, false}
use mathlib.Core.List.{List, [], ◌∷◌, ◌++◌, append-nil}
use Prim.Native.Nat.{ℕ, suc, ◌+◌, ◌*◌, ◌-◌, ◌≤◌, ◌<◌}
use native.Mathlib.Omega.{arith}
use borrow.Author.Tests.{eq-eqb, ne_eqb}
use lib.Dec.{eqb}
use lib.ListN.{length, get_or, drop, set, length-set}
use lib.Seq.{get_or-set_same, get_or-set_other, drop-cons}
use Rattle.lists.specs.Each.{Each}
use Rattle.lists.specs.Members.{among, Distinct, In, first, later}
use Rattle.lists.proofs.TestOutcomes.{clash}
use Rattle.lists.proofs.EachLaws.{each_implied, each_append}
use Rattle.lists.proofs.InLaws.{in_append_left, in_append_right}
use Rattle.registers.specs.Registers.{shown_raw}
use Rattle.catalog_frames.specs.Frames.{Point, Head}
use Rattle.model_definitions.specs.Definitions.{Groups, no_group, group, points_size, point_frames, group_frames}
use Rattle.model_definitions.specs.Soundness.{SoundGroups, numbers_of}
use Rattle.model_definitions.proofs.GroupNumbers.{point_among, Apart, apart}
use Rattle.layout.specs.Points.{ModelPoint, Instance, registers_at, point_at}
use Rattle.layout.specs.Layout.{groups_size, points_at, instances, entered, groups_by, groups_at}
use Rattle.layout.specs.Tiling.{lower_points}
use Rattle.layout.specs.Paths.{depth_in, agree_to, path_of}
use Rattle.layout.proofs.InstanceLaws.{each_instance}
use Rattle.layout.proofs.OnePoint.{frame_points, of_groups, number_among}
use Rattle.layout.proofs.Depths.{three_numbers, agree_first}

-- ---- The function

-- The number of registers of the points before point n.
unfoldable pub offset_in : ℕ → List Point → ℕ
offset_in n [] = 0
offset_in n (q ∷ qs) = elim (eqb n q.number) [ true ↦ 0 | false ↦ q.size + offset_in n qs ]

-- The number of registers before point n, in groups and on a path into them: in the group that has the point, it is in the
-- instance with the path's first number, and the rest of the path leads into the groups inside.
unfoldable pub address_in : (Head → ℕ) → ℕ → List ℕ → Groups → ℕ
address_in count n path no_group = 0
address_in count n path (group h ps inside following) =
    elim (among n (numbers_of (point_frames ps))) [
      | true ↦ get_or path 0 0 * (points_size ps + groups_size count inside) + offset_in n ps
      | false ↦ elim (among n (numbers_of (group_frames inside))) [
        | true ↦
            get_or path 0 0 * (points_size ps + groups_size count inside) + (points_size ps + address_in count n (drop 1 path) inside)
        | false ↦ count h * (points_size ps + groups_size count inside) + address_in count n path following
      ]
    ]

-- ---- It depends only on the instance numbers that lead to the point

-- On paths that agree in these numbers, the address is the same.
pub agree_address : (count : Head → ℕ) (n : ℕ) (g : Groups) (xs ys : List ℕ) → length xs ≡ length ys
    → agree_to (depth_in n g) xs ys ≡ true → address_in count n xs g ≡ address_in count n ys g
unfolding address_in depth_in
agree_address count n no_group xs ys l e = refl
agree_address count n (group h ps inside following) xs ys l e =
    go (among n (numbers_of (point_frames ps))) (among n (numbers_of (group_frames inside))) (agree_address count n inside)
    (agree_address count n following xs ys l) e
  where
    size : ℕ
    size = points_size ps + groups_size count inside

    -- The address, by the two tests.
    Address : Bool → Bool → List ℕ → ℕ
    Address a b path =
        elim a [
          | true ↦ get_or path 0 0 * size + offset_in n ps
          | false ↦ elim b [
            | true ↦ get_or path 0 0 * size + (points_size ps + address_in count n (drop 1 path) inside)
            | false ↦ count h * size + address_in count n path following
          ]
        ]

    go : (a b : Bool)
        → ((us vs : List ℕ) → length us ≡ length vs → agree_to (depth_in n inside) us vs ≡ true
        → address_in count n us inside ≡ address_in count n vs inside)
        → (agree_to (depth_in n following) xs ys ≡ true → address_in count n xs following ≡ address_in count n ys following)
        → agree_to (elim a [ true ↦ 1 | false ↦ elim b [ true ↦ suc (depth_in n inside) | false ↦ depth_in n following ] ]) xs ys ≡ true
        → Address a b xs ≡ Address a b ys
    go true b i r e = ap (λ j. j * size + offset_in n ps) (agree_first 0 xs ys l e).0
    go false true i r e =
        let f = agree_first (depth_in n inside) xs ys l e in
        let s = i (drop 1 xs) (drop 1 ys) f.1 f.2 in
        rw (f.0, s)
    go false false i r e = ap (λ a. count h * size + a) (r e)

-- ---- The numbers of groups

-- The number of a point of groups is among the numbers of the groups.
pub lower_among : (p : Point) (g : Groups) → In p (lower_points g) → among p.number (numbers_of (group_frames g)) ≡ true
lower_among p g i =
    let frames : frame_points (group_frames g) ≡ lower_points g =
    ap frame_points (sym (append-nil (group_frames g))) ∙ of_groups g [] ∙ append-nil (lower_points g) in
    number_among (group_frames g) p (subst (In p) (sym frames) i)

-- ---- The points of an instance

-- A point of an instance has the path of the instance.
path_back : (body : List ℕ) (i : Instance) (offset : ℕ) (q : Point) → length i.path ≡ 3
    → path_of (point_at body i offset q) ≡ i.path
unfolding point_at
path_back body i offset q l = three_numbers i.path l

-- A point's raw value is that of its registers.
abbrev pub Reads : List ℕ → ModelPoint → Type 0
Reads body p = p.raw ≡ shown_raw (registers_at body p.offset p.definition)

-- A point of an instance with this path at this offset: it is one of these points, and is placed after those before it.
pub record Own (body path : List ℕ) (offset : ℕ) (ps : List Point) (p : ModelPoint) : Type 0 where
  pub defined : In p.definition ps
  pub on_path : path_of p ≡ path
  pub addressed : p.offset ≡ offset + offset_in p.definition.number ps
  pub reads : Reads body p

-- Each listed point of an instance is so.
pub each_own : (body : List ℕ) (i : Instance) (offset : ℕ) (ps : List Point) → length i.path ≡ 3
    → Distinct (numbers_of (point_frames ps)) → Each (Own body i.path offset ps) (points_at body i offset ps)
unfolding points_at point_at offset_in
each_own body i offset [] l d = tt
each_own body i offset (q ∷ qs) l d =
    let here : Own body i.path offset (q ∷ qs) (point_at body i offset q) = record {
      defined = first;
      on_path = path_back body i offset q l;
      addressed = rw (eq-eqb q.number q.number refl, offset_in) (omega arith);
      reads = refl;
    } in (
      here,
      each_implied (Own body i.path (offset + q.size) qs) (Own body i.path offset (q ∷ qs)) later_own
          (points_at body i (offset + q.size) qs) (each_own body i (offset + q.size) qs l d.1),
    )
  where
    -- A point after the first.
    later_own : (p : ModelPoint) → Own body i.path (offset + q.size) qs p → Own body i.path offset (q ∷ qs) p
    later_own p o =
        let other : p.definition.number ≡ q.number → ⊥ = λ e.
        clash (sym (point_among p.definition qs o.defined) ∙ ap (λ n. among n (numbers_of (point_frames qs))) e ∙ d.0) in
        let a = o.addressed in
        record {
          defined = later o.defined;
          on_path = o.on_path;
          addressed = rw (ne_eqb p.definition.number q.number other, offset_in) (omega (arith, a));
          reads = o.reads;
        }

-- ---- The points of groups

-- A point of groups that are placed from `offset`, where the first k instance numbers of `path` lead to the groups: it is one
-- of their points, and its path begins with these k numbers.
pub record Lower (body : List ℕ) (count : Head → ℕ) (k : ℕ) (path : List ℕ) (offset : ℕ) (g : Groups) (p : ModelPoint)
    : Type 0 where
  pub defined : In p.definition (lower_points g)
  pub keeps : (i : ℕ) → i < k → get_or (path_of p) i 0 ≡ get_or path i 0
  pub addressed : p.offset ≡ offset + address_in count p.definition.number (drop k (path_of p)) g
  pub reads : Reads body p

module _ (body : List ℕ) (count : Head → ℕ) (k : ℕ) (path : List ℕ) (offset : ℕ) (h : Head) (ps : List Point)
    (inside following : Groups) (t : Apart ps inside following) (l : length path ≡ 3) (low : k < 3) where
  -- The size of an instance.
  abbrev size : ℕ
  size = points_size ps + groups_size count inside

  -- The number of an instance is at place k of each path into it, and the numbers before it stay.
  kept : (j : ℕ) (xs : List ℕ) → ((i : ℕ) → i < suc k → get_or xs i 0 ≡ get_or (set path k j) i 0)
      → (get_or xs k 0 ≡ j) × ((i : ℕ) → i < k → get_or xs i 0 ≡ get_or path i 0)
  kept j xs e = (
    e k (omega arith) ∙ get_or-set_same path k j 0 (rw l low),
    λ i b. e i (omega arith) ∙ get_or-set_other path k i j 0 (λ q. absurd (omega arith)),
  )

  -- The address of a number of the group's own points,
  own_address : (n : ℕ) (xs : List ℕ) → among n (numbers_of (point_frames ps)) ≡ true
      → address_in count n xs (group h ps inside following) ≡ get_or xs 0 0 * size + offset_in n ps
  unfolding address_in
  own_address n xs e = rw (e, address_in)

  -- of the groups in it,
  lower_address : (n : ℕ) (xs : List ℕ) → among n (numbers_of (group_frames inside)) ≡ true
      → address_in count n xs (group h ps inside following)
      ≡ get_or xs 0 0 * size + (points_size ps + address_in count n (drop 1 xs) inside)
  unfolding address_in
  lower_address n xs e = rw (t.inside_points n e, e, address_in)

  -- and of the groups after it.
  next_address : (n : ℕ) (xs : List ℕ) → among n (numbers_of (group_frames following)) ≡ true
      → address_in count n xs (group h ps inside following) ≡ count h * size + address_in count n xs following
  unfolding address_in
  next_address n xs e = rw (t.following_points n e, t.following_inside n e, address_in)

  -- A point of the group's own points,
  of_own : (j : ℕ) (p : ModelPoint) → Own body (set path k j) (offset + j * size) ps p
      → Lower body count k path offset (group h ps inside following) p
  of_own j p o =
      let n = p.definition.number in
      let s = kept j (path_of p) (λ i b. ap (λ xs. get_or xs i 0) o.on_path) in
      let xs = drop k (path_of p) in
      let here : get_or xs 0 0 ≡ j = ap (λ xs. get_or xs 0 0) (drop-cons (path_of p) k 0 low) ∙ s.0 in
      let a = own_address n xs (point_among p.definition ps o.defined) ∙ ap (λ i. i * size + offset_in n ps) here in
      let b = o.addressed in
      record {
        defined = in_append_left p.definition ps (lower_points inside ++ lower_points following) o.defined;
        keeps = s.1;
        addressed = omega (arith, a, b);
        reads = o.reads;
      }

  -- of the groups in it,
  of_lower : (j : ℕ) (p : ModelPoint) → Lower body count (suc k) (set path k j) (offset + j * size + points_size ps) inside p
      → Lower body count k path offset (group h ps inside following) p
  of_lower j p o =
      let n = p.definition.number in
      let s = kept j (path_of p) o.keeps in
      let xs = drop k (path_of p) in
      let e = drop-cons (path_of p) k 0 low in
      let here : get_or xs 0 0 ≡ j = ap (λ xs. get_or xs 0 0) e ∙ s.0 in
      let rest : drop 1 xs ≡ drop (suc k) (path_of p) = ap (λ xs. drop 1 xs) e in
      let a = lower_address n xs (lower_among p.definition inside o.defined)
      ∙ ap (λ i. i * size + (points_size ps + address_in count n (drop 1 xs) inside)) here
      ∙ ap (λ ys. j * size + (points_size ps + address_in count n ys inside)) rest in
      let b = o.addressed in
      record {
        defined = in_append_right p.definition ps (lower_points inside ++ lower_points following)
            (in_append_left p.definition (lower_points inside) (lower_points following) o.defined);
        keeps = s.1;
        addressed = omega (arith, a, b);
        reads = o.reads;
      }

  -- and of the groups after it.
  of_next : (p : ModelPoint) → Lower body count k path (offset + count h * size) following p
      → Lower body count k path offset (group h ps inside following) p
  of_next p o =
      let a = next_address p.definition.number (drop k (path_of p)) (lower_among p.definition following o.defined) in
      let b = o.addressed in
      record {
        defined = in_append_right p.definition ps (lower_points inside ++ lower_points following)
            (in_append_right p.definition (lower_points inside) (lower_points following) o.defined);
        keeps = o.keeps;
        addressed = omega (arith, a, b);
        reads = o.reads;
      }

-- Each listed point of groups below the top group is so.
pub each_lower : (body : List ℕ) (count : Head → ℕ) (level : ℕ) (i : Instance) (offset : ℕ)
    (top enclosing : List Point) (g : Groups) → SoundGroups top enclosing level g → 2 ≤ level → length i.path ≡ 3
    → Distinct (numbers_of (group_frames g))
    → Each (Lower body count (level - 2) i.path offset g) (groups_at body count level i offset g)
unfolding groups_by entered
each_lower body count level i offset top enclosing no_group s below l d = tt
each_lower body count level i offset top enclosing (group h ps inside next) s below l d =
    let k = level - 2 in
    let path = i.path in
    let deeper : suc level - 2 ≡ suc k = omega (arith, below) in
    let t = apart ps inside next d.1 in
    let low : k < 3 = let r = s.0.level_in_range in omega (arith, r) in
    let P : ModelPoint → Type 0 = Lower body count k path offset (group h ps inside next) in
    let size = points_size ps + groups_size count inside in
    let own : ℕ → ℕ → List ModelPoint = λ j o. points_at body (entered body level j o ps i) o ps in
    let lower : ℕ → ℕ → List ModelPoint = λ j o.
    groups_at body count (suc level) (entered body level j o ps i) (o + points_size ps) inside in
    let three : (j : ℕ) → length (set path k j) ≡ 3 = λ j. length-set path k j ∙ l in
    let each : (j : ℕ) → Each P (own j (offset + j * size) ++ lower j (offset + j * size)) = λ j.
    let o = offset + j * size in
    let L : ℕ → ModelPoint → Type 0 = λ m. Lower body count m (set path k j) (o + points_size ps) inside in
    each_append P (own j o) (lower j o)
    (each_implied (Own body (set path k j) o ps) P (of_own body count k path offset h ps inside next t l low j) (own j o)
    (each_own body (entered body level j o ps i) o ps (three j) t.points_distinct))
    (each_implied (L (suc level - 2)) P
    (λ p q. of_lower body count k path offset h ps inside next t l low j p (subst (λ m. L m p) deeper q)) (lower j o)
    (each_lower body count (suc level) (entered body level j o ps i) (o + points_size ps) top (ps ++ enclosing) inside
    s.3 (omega arith) (three j) t.inside_distinct)) in
    let mid = offset + count h * size in
    let rest = groups_at body count level i mid next in
    each_append P (instances (count h) 0 offset size (λ j o. own j o ++ lower j o)) rest
    (each_instance P size (λ j o. own j o ++ lower j o) offset each (count h) 0 offset (omega arith))
    (each_implied (Lower body count k path mid next) P (of_next body count k path offset h ps inside next t l low) rest
    (each_lower body count level i mid top enclosing next s.4 below l t.following_distinct))
