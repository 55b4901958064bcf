-- How a point and a record change by a write, case by case; each keeps its place.
use mathlib.Core.Path.{◌≡◌, refl, subst}
use mathlib.Core.Bool.{Bool, true, false}
use mathlib.Core.List.{List}
use mathlib.Core.Option.{Option, none, some}
use Prim.Native.Nat.{ℕ}
use borrow.Author.Tests.{eq-eqb, ne_eqb}
use lib.Dec.{eqb}
use Rattle.model_definitions.specs.Definitions.{Content, Definition}
use Rattle.layout.specs.Points.{ModelPoint}
use Rattle.layout.specs.Reading.{top_of}
use Rattle.listing.specs.Listing.{Record}
use Rattle.listing.specs.Finding.{is_record}
use Rattle.writing.specs.AfterWriting.{is_scale_factor_of, SamePlace, Holds, rescaled, PointAfter, PointBecomes, OfSamePoint, RecordAfter}

-- A point has its own place,
pub keeps_place : (p : ModelPoint) → SamePlace p p
keeps_place p = record { offset = refl; definition = refl; level2 = refl; level3 = refl; level4 = refl }

-- and a point that equals q has the place of q.
same_as : (p q r : ModelPoint) → SamePlace p q → r ≡ q → SamePlace p r
same_as p q r s e = rw e s

-- One of two facts, by a test.
abbrev one_of : Bool → Type 0 → Type 0 → Type 0
one_of b A B = elim b [ true ↦ A | false ↦ B ]

-- A point of the model that is written to keeps its place.
pub point_place : (top : Content) (w : ModelPoint) (raw : ℕ) (p q : ModelPoint) → PointAfter top w raw p q → SamePlace p q
point_place top w raw p q = go (eqb p.offset w.offset) (is_scale_factor_of top w p)
  where
    stays_rescaled : SamePlace p (rescaled raw p)
    stays_rescaled = record { offset = refl; definition = refl; level2 = refl; level3 = refl; level4 = refl }

    go : (a b : Bool) → one_of a (Holds raw p q) (one_of b (q ≡ rescaled raw p) (q ≡ p)) → SamePlace p q
    go true b h = h.place
    go false true h = same_as p (rescaled raw p) q stays_rescaled h
    go false false h = same_as p p q (keeps_place p) h

-- Index, number and path select the same record before and after the write.
pub same_record : (index number : ℕ) (path : List ℕ) (r s : Record) → OfSamePoint r s
    → is_record index number path s ≡ is_record index number path r
same_record index number path r s same =
    let p = same.place in
    rw (same.index, p.definition, p.level2, p.level3, p.level4)

-- ---- Case by case

-- A record of the same point as r that has the point p is r with the point p.
pub with_point_lem : (r s : Record) → OfSamePoint r s → (p : ModelPoint) → s.point ≡ p
    → s ≡ record { index = r.index; id = r.id; address = r.address; point = p }
with_point_lem r s same p e = λ k. record { index = same.index k; id = same.id k; address = same.address k; point = e k }

module _ (ds : List Definition) (w : Record) (raw : ℕ) (r s : Record) (a : RecordAfter ds w raw r s) where
  -- A record of another model stays as it is.
  pub after_unchanged : (r.index ≡ w.index → ⊥) → s ≡ r
  after_unchanged n =
      let P : Bool → Type 0 = λ b. PointBecomes b (top_of w.id ds) w.point raw r.point s.point in
      with_point_lem r s a.same r.point (subst P (ne_eqb r.index w.index n) a.point)

  module _ (same : r.index ≡ w.index) (top : Content) (known : top_of w.id ds ≡ some top) where
    -- A record of the same model, by the top group of its definition.
    after_own : PointAfter top w.point raw r.point s.point
    after_own =
        let P : Bool → Option Content → Type 0 = λ b o. PointBecomes b o w.point raw r.point s.point in
        subst (P true) known (subst (λ b. P b (top_of w.id ds)) (eq-eqb r.index w.index same) a.point)

    -- What holds of it, by whether it is the point written (`here`) and whether its scale factor is written (`scaled`).
    abbrev By : Bool → Bool → Type 0
    By here scaled =
        one_of here (Holds raw r.point s.point)
        (one_of scaled (s.point ≡ rescaled raw r.point) (s.point ≡ r.point))

    -- The point written.
    pub after_here : r.point.offset ≡ w.point.offset → Holds raw r.point s.point
    after_here e =
        subst (λ b. By b (is_scale_factor_of top w.point r.point))
        (eq-eqb r.point.offset w.point.offset e) after_own

    module _ (other : r.point.offset ≡ w.point.offset → ⊥) where
      -- A point other than the one written.
      after_other : By false (is_scale_factor_of top w.point r.point)
      after_other =
          subst (λ b. By b (is_scale_factor_of top w.point r.point))
          (ne_eqb r.point.offset w.point.offset other) after_own

      -- A point whose scale factor is written.
      pub after_scaled : is_scale_factor_of top w.point r.point ≡ true → s.point ≡ rescaled raw r.point
      after_scaled e = subst (By false) e after_other

      -- A point whose scale factor is not written.
      pub after_unscaled : is_scale_factor_of top w.point r.point ≡ false → s ≡ r
      after_unscaled e = with_point_lem r s a.same r.point (subst (By false) e after_other)

-- The record of the point written: its model is known, and the point holds the raw value.
pub after_written : (ds : List Definition) (w : Record) (raw : ℕ) (s : Record) → RecordAfter ds w raw w s
    → Holds raw w.point s.point
after_written ds w raw s a = go (top_of w.id ds) refl
  where
    go : (o : Option Content) → top_of w.id ds ≡ o → Holds raw w.point s.point
    go (some top) e = after_here ds w raw w s a refl top e refl
    go none e = absurd (subst (λ o. PointBecomes true o w.point raw w.point s.point) e
        (subst (λ b. PointBecomes b (top_of w.id ds) w.point raw w.point s.point)
        (eq-eqb w.index w.index refl) a.point))
