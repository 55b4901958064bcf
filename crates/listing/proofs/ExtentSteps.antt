-- The extent of groups, summed up one by one: the groups visited and the remaining ones together have the extent of all.
use mathlib.Core.Path.{◌≡◌, refl, sym, ap, ◌∙◌}
use mathlib.Core.Bool.{Bool, true, false, ◌&&◌, ◌||◌}
use mathlib.Core.List.{List}
use mathlib.Core.Option.{Option, some}
use Prim.Native.Nat.{ℕ, ◌+◌, ◌*◌, ◌≤◌, min}
use native.Mathlib.Omega.{arith}
use borrow.Author.Tests.{eqb-true}
use lib.Dec.{eqb}
use lib.ListN.{length}
use Rattle.lists.proofs.TestOutcomes.{impossible, clash}
use Rattle.catalog_frames.specs.Frames.{Point, Head, count_by_point, fill}
use Rattle.model_definitions.specs.Definitions.{Groups, no_group, group, points_size}
use Rattle.layout.specs.Points.{Scope}
use Rattle.layout.specs.Layout.{count_of, measured, fill_measured, groups_size, fill_size, count_unimplemented}
use Rattle.layout.specs.Counts.{groups_points, fill_points, or0}
use Rattle.layout.proofs.Capping.{capped_factor}
use Rattle.listing.specs.InternalContracts.{ExtentOf, WithGroup, registers_or0, points_or0}
use Rattle.definition_frames.specs.declared.runs.Run.{Run}
use Rattle.listing.specs.declared.extents.Extent.{Extent}

-- If a group remains, no group visited so far is a fill group.
abbrev pub NoFillYet : Groups → Extent → Type 0
NoFillYet no_group sum = Unit {0}
NoFillYet (group h ps inside following) sum = (registers_or0 sum.fill ≡ 0) × (points_or0 sum.fill ≡ 0)

-- `sum`, the extent of the groups visited, and the extent of `rest` together are the extent of `all`.
pub record SummedUp (top : Scope) (all rest : Groups) (sum : Extent) : Type 0 where
  pub sizes : min (sum.size.registers + groups_size (count_of top 0) rest) 65536 ≡ min (groups_size (count_of top 0) all) 65536
  pub points : min (sum.size.points + groups_points (count_of top 0) rest) 65536 ≡ min (groups_points (count_of top 0) all) 65536
  pub capped : (sum.size.registers ≤ 65536) × (sum.size.points ≤ 65536)
  pub fill_sizes : registers_or0 sum.fill + min (or0 (fill_size (count_of top 0) rest)) 65536
      ≡ min (or0 (fill_size (count_of top 0) all)) 65536
  pub fill_points : points_or0 sum.fill + min (fill_points (count_of top 0) rest) 65536 ≡ min (fill_points (count_of top 0) all) 65536
  pub no_fill : NoFillYet rest sum
  pub unimplemented : (sum.unimplemented || count_unimplemented top rest) ≡ count_unimplemented top all

-- ---- Numbers and tests

-- The sum with the next group added to it.
total : (sum count own inner following all run inside new : ℕ) → min (sum + (count * (own + inner) + following)) 65536 ≡ all
    → run ≡ own → inside ≡ min inner 65536 → new ≡ min (sum + count * min (run + inside) 65536) 65536
    → min (new + following) 65536 ≡ all
total sum count own inner following all run inside new a r i n =
    let s : min (run + inside) 65536 ≡ min (own + inner) 65536 = omega arith in
    let q : new ≡ min (sum + count * min (own + inner) 65536) 65536 = n ∙ ap (λ x. min (sum + count * x) 65536) s in
    omega (arith, a, q, capped_factor 65536 sum count (own + inner))

-- The disjunction of the same tests in another order.
reordered : (sum here inside following all new : Bool) → (sum || (here || (inside || following))) ≡ all
    → new ≡ (sum || (inside || here)) → (new || following) ≡ all
reordered true here inside following all new a n = rw n a
reordered false true true following all new a n = rw n a
reordered false true false following all new a n = rw n a
reordered false false true following all new a n = rw n a
reordered false false false following all new a n = rw n a

-- The size of an instance of the fill group, with the next group added; there is at most one fill group.
filled : (fills : Bool) (own inner following all run inside old new : ℕ)
    → old + min (elim fills [ true ↦ own + inner | false ↦ following ]) 65536 ≡ all → old ≡ 0 → (fills ≡ true → following ≡ 0)
    → run ≡ own → inside ≡ min inner 65536 → new ≡ elim fills [ true ↦ min (run + inside) 65536 | false ↦ old ]
    → new + min following 65536 ≡ all
filled true own inner following all run inside old new a z last r i n = let b = last refl in omega arith
filled false own inner following all run inside old new a z last r i n = omega arith

-- If the next group is no fill group, the fill stays 0.
not_filled : (fills : Bool) (size old new : ℕ) → fills ≡ false → new ≡ elim fills [ true ↦ size | false ↦ old ] → old ≡ 0
    → new ≡ 0
not_filled true size old new f n z = clash f
not_filled false size old new f n z = n ∙ z

-- The size that a test picks.
size_picked : (b : Bool) (size : ℕ) (other : Option ℕ)
    → or0 (elim b [ true ↦ some size | false ↦ other ]) ≡ elim b [ true ↦ size | false ↦ or0 other ]
size_picked true size other = refl
size_picked false size other = refl

-- ---- Groups

-- No group follows a fill group.
none_yet : (following : Groups) (r : Extent) (fills : Bool) → (fills ≡ true → following ≡ no_group)
    → (fills ≡ false → (registers_or0 r.fill ≡ 0) × (points_or0 r.fill ≡ 0)) → NoFillYet following r
none_yet no_group r fills last z = tt
none_yet (group h ps inside following) r true last z =
    let e = last refl in impossible (cc)
none_yet (group h ps inside following) r false last z = z refl

module _ (top : Scope) (all : Groups) where
  -- No group is visited yet.
  pub none_visited : (sum : Extent) → sum.size.registers ≡ 0 → sum.size.points ≡ 0 → registers_or0 sum.fill ≡ 0 → points_or0 sum.fill ≡ 0
      → sum.unimplemented ≡ false → SummedUp top all all sum
  none_visited sum s p fs fp u =
      record {
        sizes = rw s (omega arith);
        points = rw p (omega arith);
        capped = (omega arith, omega arith);
        fill_sizes = rw fs (omega arith);
        fill_points = rw fp (omega arith);
        no_fill = not_yet all;
        unimplemented = rw u refl;
      }
    where
      not_yet : (g : Groups) → NoFillYet g sum
      not_yet no_group = tt
      not_yet (group h ps inside following) = (fs, fp)

  -- All groups are visited.
  pub all_visited : (sum : Extent) (next : ℕ) → SummedUp top all no_group sum → ExtentOf top all (record sum { next = next })
  unfolding measured fill_measured count_unimplemented
  all_visited sum next s =
      record {
        size = let e = s.sizes in omega (arith, e, s.capped.0);
        points = let e = s.points in omega (arith, e, s.capped.1);
        fill_size = let e = s.fill_sizes in omega (arith, e);
        fill_points = let e = s.fill_points in omega (arith, e);
        unimplemented = or-false sum.unimplemented ∙ s.unimplemented;
      }
    where
      or-false : (b : Bool) → b ≡ (b || false)
      or-false true = refl
      or-false false = refl

  module _ (h : Head) (ps : List Point) (inside following : Groups) (sum : Extent)
      (s : SummedUp top all (group h ps inside following) sum) (last : h.count_kind ≡ fill → following ≡ no_group)
      (run : Run) (size : run.size ≡ points_size ps) (points : run.points ≡ length ps)
      (lower : Extent) (i : ExtentOf top inside lower)
      (r : Extent) (w : WithGroup sum top h run lower r) where
    -- One more group is visited.
    pub one_more : SummedUp top all following r
    unfolding measured fill_measured count_unimplemented
    one_more =
        let count = count_of top 0 in
        let fills = eqb h.count_kind fill in
        let here = eqb h.count_kind count_by_point && eqb (top h.count) 0xFFFF in
        let picked : (weight : List Point → ℕ) → or0 (elim fills [
          | true ↦ some (weight ps + measured weight count inside)
          | false ↦ fill_measured weight count following
        ]) ≡ elim fills [ true ↦ weight ps + measured weight count inside | false ↦ or0 (fill_measured weight count following) ] =
        λ weight. size_picked fills (weight ps + measured weight count inside) (fill_measured weight count following) in
        let last_here : fills ≡ true → following ≡ no_group = λ t. last (eqb-true h.count_kind fill t) in
        record {
          sizes = total sum.size.registers (count h) (points_size ps) (groups_size count inside) (groups_size count following) _ run.size
              lower.size.registers r.size.registers s.sizes size i.size w.size;
          points = total sum.size.points (count h) (length ps) (groups_points count inside) (groups_points count following) _
              run.points lower.size.points r.size.points s.points points i.points w.points;
          capped = (omega (arith, w.size), omega (arith, w.points));
          fill_sizes = filled fills (points_size ps) (groups_size count inside) (or0 (fill_size count following)) _ run.size
              lower.size.registers (registers_or0 sum.fill) (registers_or0 r.fill)
              (ap (λ n. (registers_or0 sum.fill) + min n 65536) (sym (picked points_size)) ∙ s.fill_sizes) s.no_fill.0
              (λ t. ap (λ g. or0 (fill_size count g)) (last_here t)) size i.size w.fill_size;
          fill_points = filled fills (length ps) (groups_points count inside) (fill_points count following) _ run.points
              lower.size.points (points_or0 sum.fill) (points_or0 r.fill)
              (ap (λ n. (points_or0 sum.fill) + min n 65536) (sym (picked length)) ∙ s.fill_points) s.no_fill.1
              (λ t. ap (fill_points count) (last_here t)) points i.points w.fill_points;
          no_fill = none_yet following r fills last_here
              (λ f. (not_filled _ _ _ _ f w.fill_size s.no_fill.0, not_filled _ _ _ _ f w.fill_points s.no_fill.1));
          unimplemented = reordered sum.unimplemented here (count_unimplemented top inside) (count_unimplemented top following) _
              r.unimplemented s.unimplemented
              (w.unimplemented ∙ ap (λ u. sum.unimplemented || (u || here)) i.unimplemented);
        }
