-- The records of a walk, model by model: the model of each record, and the records after the body of one model has changed.
use mathlib.Core.Path.{◌≡◌, refl, sym, ap, subst, ◌∙◌}
use mathlib.Core.List.{List, [], ◌∷◌, ◌++◌, map}
use Prim.Native.Nat.{ℕ, ◌+◌}
use native.Mathlib.Omega.{arith}
use lib.ListN.{length}
use Rattle.lists.specs.Members.{In, first, later}
use Rattle.lists.specs.Each.{Pairwise}
use Rattle.lists.proofs.InLaws.{in_either, not_in_none}
use Rattle.lists.proofs.PairwiseLaws.{pairwise_append, pairwise_same, pairwise_map}
use Rattle.register_map.specs.Scan.{Model, size_of, total_size, Ending}
use Rattle.layout.specs.Points.{ModelPoint}
use Rattle.layout.specs.Reading.{Reading, unknown, faulty, points}
use Rattle.layout.specs.InternalWalks.{points_of}
use Rattle.listing.specs.Listing.{Record, record_of, listed, with_records, walk}
use Rattle.listing.proofs.WalkSteps.{not_listed, walk_no_records, walk_faulty, walk_points}
use Rattle.listed_records.proofs.ModelRecords.{Listed, walk_listed, end_listed}

-- A record among those of the points ps is that of a point of ps.
pub in_records : (i at id : ℕ) (ps : List ModelPoint) (r : Record) → In r (map (record_of i at id) ps)
    → In r.point ps × (r ≡ record_of i at id r.point)
in_records i at id (p ∷ ps) r first = (first, refl)
in_records i at id (p ∷ ps) r (later o) = let s = in_records i at id ps r o in (later s.0, s.1)
in_records i at id [] r k = elim k [ ]

-- A reading that has a point is a reading as points.
read_points : (r : Reading) (p : ModelPoint) → In p (points_of r) → r ≡ points (points_of r)
read_points (points ps) p i = refl
read_points unknown p i = elim i [ ]
read_points (faulty _) p i = elim i [ ]

-- Record r is that of a point of `own`, one of the models ms, the first of which has this index and address.
pub record OfModel (read : Model → Reading) (index at : ℕ) (ms : List Model) (r : Record) : Type 0 where
  pub preceding : List Model
  pub own : Model
  pub following : List Model
  pub splits : ms ≡ preceding ++ own ∷ following
  pub reads : read own ≡ points (points_of (read own))
  pub holds : In r.point (points_of (read own))
  pub place : r ≡ record_of (index + length preceding) (at + total_size preceding) own.id r.point

module _ (read : Model → Reading) (ending : Ending) where
  module _ (index at : ℕ) (m : Model) (ms : List Model) (rs : List Record) (headers : ℕ) where
    -- The records of a walk are those of the first model, then those of the models after it.
    pub records_first : walk read ending index at (m ∷ ms) ≡ listed rs headers
        → (ss : List Record)
        × (walk read ending (index + 1) (at + size_of m) ms ≡ listed ss headers)
        × (rs ≡ map (record_of index at m.id) (points_of (read m)) ++ ss)
    records_first e = go (read m) (walk_listed read ending index at m ms rs headers e)
      where
        go : (r : Reading) → Listed read ending index at m ms rs headers r
            → (ss : List Record)
            × (walk read ending (index + 1) (at + size_of m) ms ≡ listed ss headers)
            × (rs ≡ map (record_of index at m.id) (points_of r) ++ ss)
        go unknown l = (rs, l, refl)
        go (faulty fault) l = absurd l
        go (points ps) l = l

    -- With other models after it, the first model has the same records.
    records_after : walk read ending index at (m ∷ ms) ≡ listed rs headers → (ns : List Model) (ss : List Record)
        → walk read ending (index + 1) (at + size_of m) ns ≡ listed ss headers
        → walk read ending index at (m ∷ ns) ≡ listed (map (record_of index at m.id) (points_of (read m)) ++ ss) headers
    records_after e ns ss f = go (read m) refl
      where
        go : (r : Reading) → read m ≡ r
            → walk read ending index at (m ∷ ns) ≡ listed (map (record_of index at m.id) (points_of r) ++ ss) headers
        go unknown q = walk_no_records read ending index at m ns q ∙ ap (with_records []) f
        go (faulty fault) q = not_listed (sym (walk_faulty read ending index at m ms q) ∙ e)
        go (points ps) q =
            walk_points read ending index at m ns q ∙ ap (with_records (map (record_of index at m.id) ps)) f

  -- Each record of a walk is that of a point of a model.
  pub record_of_model : (ms : List Model) (index at : ℕ) (rs : List Record) (headers : ℕ)
      → walk read ending index at ms ≡ listed rs headers → (r : Record) → In r rs → OfModel read index at ms r
  record_of_model [] index at rs headers e r i = not_in_none r rs (end_listed read ending index at rs headers e) i
  record_of_model (m ∷ ms) index at rs headers e r i =
      let s = records_first index at m ms rs headers e in
      let own = map (record_of index at m.id) (points_of (read m)) in
      in_either r own s.0 (subst (In r) s.2 i) here
      (λ o. following (record_of_model ms (index + 1) (at + size_of m) s.0 headers s.1 r o))
    where
      here : In r (map (record_of index at m.id) (points_of (read m))) → OfModel read index at (m ∷ ms) r
      here o =
          let q = in_records index at m.id (points_of (read m)) r o in
          let none : index ≡ index + 0 = omega arith in
          let nothing : at ≡ at + 0 = omega arith in
          record {
            preceding = [];
            own = m;
            following = ms;
            splits = refl;
            reads = read_points (read m) r.point q.0;
            holds = q.0;
            place = q.1 ∙ ap (λ k. record_of k at m.id r.point) none
                ∙ ap (λ k. record_of (index + 0) k m.id r.point) nothing;
          }

      following : OfModel read (index + 1) (at + size_of m) ms r → OfModel read index at (m ∷ ms) r
      following o =
          let l = length o.preceding in
          let t = total_size o.preceding in
          let one : index + 1 + l ≡ index + length (m ∷ o.preceding) = omega arith in
          let size : at + size_of m + t ≡ at + total_size (m ∷ o.preceding) = omega arith in
          record {
            preceding = m ∷ o.preceding;
            own = o.own;
            following = o.following;
            splits = ap {B = List Model} (λ ns. m ∷ ns) o.splits;
            reads = o.reads;
            holds = o.holds;
            place = o.place ∙ ap (λ k. record_of k (at + size_of m + t) o.own.id r.point) one
                ∙ ap (λ k. record_of (index + length (m ∷ o.preceding)) k o.own.id r.point) size;
          }

  -- Model m, with the index j, is replaced by n of the same size. If R relates the points of m and n pair by pair, Q relates records
  -- of R-related points, and Q relates each record of another index to itself, then Q relates all records pair by pair.
  module _ (R : ModelPoint → ModelPoint → Type 0) (Q : Record → Record → Type 0) (m n : Model) (size : size_of n ≡ size_of m)
      (ps qs : List ModelPoint) (old : read m ≡ points ps) (new : read n ≡ points qs) (pairs : Pairwise R ps qs)
      (j : ℕ) (others : (r : Record) → (r.index ≡ j → ⊥) → Q r r)
      (own : (x : ℕ) (p q : ModelPoint) → R p q → Q (record_of j x m.id p) (record_of j x n.id q)) where
    pub records_replaced : (preceding following : List Model) (index at : ℕ) (rs : List Record) (headers : ℕ) → j ≡ index + length preceding
        → walk read ending index at (preceding ++ m ∷ following) ≡ listed rs headers
        → (ss : List Record) × (walk read ending index at (preceding ++ n ∷ following) ≡ listed ss headers) × Pairwise Q rs ss
    records_replaced [] following index at rs headers i e =
        let here : index ≡ j = omega arith in
        let s = records_first index at m following rs headers e in
        let later : walk read ending (index + 1) (at + size_of n) following ≡ listed s.0 headers = rw size s.1 in
        let above : (r : Record) → In r s.0 → Q r r = λ r o.
        let f = record_of_model following (index + 1) (at + size_of m) s.0 headers s.1 r o in
        others r (λ q. let p = ap (λ r. r.index) f.place in omega arith) in
        let records = map (record_of index at m.id) ps in
        let records' = map (record_of index at n.id) qs in
        let split : rs ≡ records ++ s.0 = rw old at s.2 in
        let own' : (p q : ModelPoint) → R p q → Q (record_of index at m.id p) (record_of index at n.id q) = λ p q h.
        rw here (own at p q h) in (
          records' ++ s.0,
          walk_points read ending index at n following new ∙ ap (with_records records') later,
          subst (λ xs. Pairwise Q xs (records' ++ s.0)) (sym split) (pairwise_append Q records records' s.0 s.0
              (pairwise_map R Q (record_of index at m.id) (record_of index at n.id) own' ps qs pairs)
              (pairwise_same Q s.0 above)),
        )
    records_replaced (f ∷ preceding) following index at rs headers i e =
        let s = records_first index at f (preceding ++ m ∷ following) rs headers e in
        let r = records_replaced preceding following (index + 1) (at + size_of f) s.0 headers (omega arith) s.1 in
        let records = map (record_of index at f.id) (points_of (read f)) in
        let here : (r : Record) → In r records → Q r r = λ r o.
        let q = in_records index at f.id (points_of (read f)) r o in
        others r (λ z. let p = ap (λ r. r.index) q.1 in omega arith) in (
          records ++ r.0,
          records_after index at f (preceding ++ m ∷ following) rs headers e (preceding ++ n ∷ following) r.0 r.1,
          subst (λ xs. Pairwise Q xs (records ++ r.0)) (sym s.2)
              (pairwise_append Q records records s.0 r.0 (pairwise_same Q records here) r.2),
        )
