-- The numbers of a group's head, its points, the groups in it and the groups after it are all different.
use mathlib.Core.Path.{◌≡◌, refl, sym, ap, subst, ◌∙◌}
use mathlib.Core.Bool.{Bool, true, false, ◌||◌, or-true}
use mathlib.Core.List.{List, [], ◌∷◌, ◌++◌}
use Prim.Native.Nat.{ℕ}
use borrow.Author.Tests.{eqb-true, eq-eqb}
use lib.Dec.{eqb}
use Rattle.lists.specs.Members.{among, Distinct, In, first, later}
use Rattle.lists.proofs.TestOutcomes.{clash}
use Rattle.lists.proofs.TestLaws.{neither}
use Rattle.catalog_frames.specs.Frames.{Point, Head, Frame, model_frame, group_frame, point_frame, end_frame, malformed}
use Rattle.model_definitions.specs.Definitions.{Groups, group, point_frames, group_frames}
use Rattle.model_definitions.specs.Soundness.{numbers_of}

-- ---- Lists of numbers

-- A number in a list is also in the list with one more number at the front.
pub among_later : (n m : ℕ) (ns : List ℕ) → among n ns ≡ true → among n (m ∷ ns) ≡ true
among_later n m ns e = rw e (or-true (eqb n m))

-- A number is in two joined lists if and only if it is in one of them.
among_either : (n : ℕ) (ms ns : List ℕ) → among n (ms ++ ns) ≡ among n ms || among n ns
among_either n [] ns = refl
among_either n (m ∷ ms) ns = go (eqb n m) (among n (ms ++ ns)) (among n ms) (among n ns) (among_either n ms ns)
  where
    go : (b x y z : Bool) → x ≡ y || z → b || x ≡ (b || y) || z
    go true x y z e = refl
    go false x y z e = e

-- A number that is not in two joined lists is in neither.
among_neither : (n : ℕ) (ms ns : List ℕ) → among n (ms ++ ns) ≡ false → (among n ms ≡ false) × (among n ns ≡ false)
among_neither n ms ns e = (neither (among n ms) (among n ns)).0 (sym (among_either n ms ns) ∙ e)

-- If the numbers of two joined lists are distinct, so are those of each list, and no number is in both.
distinct_parts : (ms ns : List ℕ) → Distinct (ms ++ ns)
    → Distinct ms × Distinct ns × ((n : ℕ) → among n ms ≡ true → among n ns ≡ false)
distinct_parts [] ns d = (tt, d, λ n e. clash (sym e))
distinct_parts (m ∷ ms) ns d =
    let r = distinct_parts ms ns d.1 in
    let a = among_neither m ms ns d.0 in
    ((a.0, r.0), r.1, λ n e. apart n (eqb n m) refl a.1 (r.2 n) e)
  where
    apart : (n : ℕ) (b : Bool) → eqb n m ≡ b → among m ns ≡ false → (among n ms ≡ true → among n ns ≡ false)
        → b || among n ms ≡ true → among n ns ≡ false
    apart n true t q f e = let z = eqb-true n m t in rw z q
    apart n false t q f e = f e

-- ---- Frames

-- The numbers of two joined lists of frames.
numbers_append : (fs gs : List Frame) → numbers_of (fs ++ gs) ≡ numbers_of fs ++ numbers_of gs
numbers_append [] gs = refl
numbers_append (model_frame id ∷ fs) gs = numbers_append fs gs
numbers_append (group_frame h ∷ fs) gs = ap (λ ns. h.number ∷ ns) (numbers_append fs gs)
numbers_append (point_frame p ∷ fs) gs = ap (λ ns. p.number ∷ ns) (numbers_append fs gs)
numbers_append (end_frame ∷ fs) gs = numbers_append fs gs
numbers_append (malformed ∷ fs) gs = numbers_append fs gs

-- The numbers in a group and of the groups after it.
part_numbers : (ps : List Point) (inside following : Groups)
    → numbers_of (point_frames ps ++ (group_frames inside ++ (end_frame ∷ group_frames following)))
    ≡ numbers_of (point_frames ps) ++ (numbers_of (group_frames inside) ++ numbers_of (group_frames following))
part_numbers ps inside following =
    numbers_append (point_frames ps) (group_frames inside ++ (end_frame ∷ group_frames following))
    ∙ ap (λ ns. numbers_of (point_frames ps) ++ ns) (numbers_append (group_frames inside) (end_frame ∷ group_frames following))

-- The number of a point is among the numbers of its list.
pub point_among : (p : Point) (ps : List Point) → In p ps → among p.number (numbers_of (point_frames ps)) ≡ true
point_among p (q ∷ ps) first = rw (eq-eqb p.number p.number refl)
point_among p (q ∷ ps) (later i) = among_later p.number q.number (numbers_of (point_frames ps)) (point_among p ps i)
point_among p [] i = elim i [ ]

-- If `a` excludes `b`, then `b` excludes `a`.
excluded : (a b : Bool) → (a ≡ true → b ≡ false) → b ≡ true → a ≡ false
excluded true b f e = clash (sym e ∙ f refl)
excluded false b f e = refl

-- The numbers of a group's points, of the groups in it and of the groups after it: each list is distinct, and no two share one.
pub record Apart (ps : List Point) (inside following : Groups) : Type 0 where
  pub points_distinct : Distinct (numbers_of (point_frames ps))
  pub inside_distinct : Distinct (numbers_of (group_frames inside))
  pub following_distinct : Distinct (numbers_of (group_frames following))
  pub points_inside : (n : ℕ) → among n (numbers_of (point_frames ps)) ≡ true → among n (numbers_of (group_frames inside)) ≡ false
  pub inside_points : (n : ℕ) → among n (numbers_of (group_frames inside)) ≡ true → among n (numbers_of (point_frames ps)) ≡ false
  pub following_points : (n : ℕ) → among n (numbers_of (group_frames following)) ≡ true → among n (numbers_of (point_frames ps)) ≡ false
  pub following_inside : (n : ℕ) → among n (numbers_of (group_frames following)) ≡ true → among n (numbers_of (group_frames inside)) ≡ false

-- This holds if all frames of the group after its group frame, and of the groups after it, have distinct numbers.
pub apart : (ps : List Point) (inside following : Groups)
    → Distinct (numbers_of (point_frames ps ++ (group_frames inside ++ (end_frame ∷ group_frames following)))) → Apart ps inside following
apart ps inside following d =
    let A = numbers_of (point_frames ps) in
    let I = numbers_of (group_frames inside) in
    let B = numbers_of (group_frames following) in
    let r = distinct_parts A (I ++ B) (subst (λ ns. Distinct ns) (part_numbers ps inside following) d) in
    let s = distinct_parts I B r.1 in
    record {
      points_distinct = r.0;
      inside_distinct = s.0;
      following_distinct = s.1;
      points_inside = λ n e. (among_neither n I B (r.2 n e)).0;
      inside_points = λ n. excluded (among n A) (among n I) (λ e. (among_neither n I B (r.2 n e)).0);
      following_points = λ n. excluded (among n A) (among n B) (λ e. (among_neither n I B (r.2 n e)).1);
      following_inside = λ n. excluded (among n I) (among n B) (s.2 n);
    }

-- A number that is in none of the three parts.
pub record NoneOf (n : ℕ) (ps : List Point) (inside following : Groups) : Type 0 where
  pub of_points : among n (numbers_of (point_frames ps)) ≡ false
  pub of_inside : among n (numbers_of (group_frames inside)) ≡ false
  pub of_following : among n (numbers_of (group_frames following)) ≡ false

pub none_of_parts : (n : ℕ) (h : Head) (ps : List Point) (inside following : Groups)
    → among n (numbers_of (group_frames (group h ps inside following))) ≡ false → NoneOf n ps inside following
none_of_parts n h ps inside following e =
    let A = numbers_of (point_frames ps) in
    let I = numbers_of (group_frames inside) in
    let B = numbers_of (group_frames following) in
    let frames = point_frames ps ++ (group_frames inside ++ (end_frame ∷ group_frames following)) in
    let g = ((neither (eqb n h.number) (among n (numbers_of frames))).0 e).1 in
    let f = subst (λ ns. among n ns ≡ false) (part_numbers ps inside following) g in
    let r = among_neither n A (I ++ B) f in
    let s = among_neither n I B r.1 in
    record { of_points = r.0; of_inside = s.0; of_following = s.1 }
