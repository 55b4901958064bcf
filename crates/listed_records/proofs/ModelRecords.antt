-- The records of one model, among all records of a map.
use mathlib.Core.Path.{◌≡◌, refl, sym, ap, subst, ◌∙◌}
use mathlib.Core.Bool.{true, false}
use mathlib.Core.List.{List, [], ◌∷◌, ◌++◌, map, append-nil}
use Prim.Native.Nat.{ℕ, ◌+◌, ◌<◌}
use native.Mathlib.Omega.{arith}
use borrow.Author.Tests.{eq-eqb, ne_eqb}
use lib.Dec.{eqb}
use lib.ListN.{length}
use Rattle.lists.specs.Each.{Each}
use Rattle.lists.proofs.TestOutcomes.{impossible}
use Rattle.lists.proofs.EachLaws.{each_append, each_map, each_all}
use Rattle.lists.proofs.SelectedLaws.{selected_append, selected_all, selected_none}
use Rattle.register_map.specs.Scan.{Model, size_of, total_size, Ending, marked, broken}
use Rattle.layout.specs.Points.{ModelPoint}
use Rattle.layout.specs.Reading.{Reading, unknown, faulty, points}
use Rattle.listing.specs.Listing.{Record, record_of, listed, walk}
use Rattle.listed_records.specs.Tiling.{records_with}
use Rattle.listing.proofs.WalkSteps.{not_listed, prepended_listed, walk_unknown, walk_faulty, walk_points}

-- ---- Records with an index

-- All records of the model with the index i have this index,
with_own : (i at : ℕ) (m : Model) (ps : List ModelPoint)
    → records_with i (map (record_of i at m.id) ps) ≡ map (record_of i at m.id) ps
with_own i at m ps =
    selected_all (λ r. eqb r.index i) (map (record_of i at m.id) ps)
    (each_map (λ r. eqb r.index i ≡ true) (record_of i at m.id) ps
    (each_all (λ p. eqb i i ≡ true) (λ p. eq-eqb i i refl) ps))

-- and those of a model with another index do not.
abbrev Other : ℕ → Record → Type 0
Other i r = eqb r.index i ≡ false

-- The records of model j have an index other than i.
others_own : (i j at : ℕ) (m : Model) (ps : List ModelPoint) → (j ≡ i → ⊥) → Each (Other i) (map (record_of j at m.id) ps)
others_own i j at m ps n =
    each_map (Other i) (record_of j at m.id) ps (each_all (λ p. eqb j i ≡ false) (λ p. ne_eqb j i n) ps)

-- ---- Walking

-- The records with the index of model m, by how m is read.
abbrev pub RecordsOf : ℕ → ℕ → Model → List Record → Reading → Type 0
RecordsOf i at m rs unknown = records_with i rs ≡ []
RecordsOf i at m rs (faulty fault) = ⊥
RecordsOf i at m rs (points ps) = records_with i rs ≡ map (record_of i at m.id) ps

module _ (read : Model → Reading) (ending : Ending) where
  -- The records rs from model m on, by how m is read: those of m, then those of the models after it.
  abbrev pub Listed : ℕ → ℕ → Model → List Model → List Record → ℕ → Reading → Type 0
  Listed i at m ms rs headers unknown = walk read ending (i + 1) (at + size_of m) ms ≡ listed rs headers
  Listed i at m ms rs headers (faulty fault) = ⊥
  Listed i at m ms rs headers (points ps) =
      (ss : List Record)
      × (walk read ending (i + 1) (at + size_of m) ms ≡ listed ss headers)
      × (rs ≡ map (record_of i at m.id) ps ++ ss)

  -- What a walk lists is such.
  pub walk_listed : (i at : ℕ) (m : Model) (ms : List Model) (rs : List Record) (headers : ℕ)
      → walk read ending i at (m ∷ ms) ≡ listed rs headers → Listed i at m ms rs headers (read m)
  walk_listed i at m ms rs headers e = go (read m) refl
    where
      go : (r : Reading) → read m ≡ r → Listed i at m ms rs headers r
      go unknown q = sym (walk_unknown read ending i at m ms q) ∙ e
      go (faulty fault) q = not_listed (sym (walk_faulty read ending i at m ms q) ∙ e)
      go (points ps) q =
          prepended_listed (map (record_of i at m.id) ps) (walk read ending (i + 1) (at + size_of m) ms) rs headers
          (sym (walk_points read ending i at m ms q) ∙ e)

  -- With no model left, nothing is listed.
  pub end_listed : (i at : ℕ) (rs : List Record) (headers : ℕ) → walk read ending i at [] ≡ listed rs headers → rs ≡ []
  unfolding walk
  end_listed i at rs headers = go ending
    where
      go : (x : Ending) → walk read x i at [] ≡ listed rs headers → rs ≡ []
      go marked e = let same : [] ≡ rs = cc in sym same
      go (broken number) e = impossible (cc)

  -- A walk from index i on lists no record with a lower index.
  records_above : (ms : List Model) (i at : ℕ) (rs : List Record) (headers : ℕ)
      → walk read ending i at ms ≡ listed rs headers → (j : ℕ) → j < i → Each (Other j) rs
  records_above [] i at rs headers e j below =
      subst (Each (Other j)) (sym (end_listed i at rs headers e)) tt
  records_above (m ∷ ms) i at rs headers e j below =
      go (read m) (walk_listed i at m ms rs headers e)
      (λ ss q. records_above ms (i + 1) (at + size_of m) ss headers q j (omega arith))
    where
      go : (r : Reading) → Listed i at m ms rs headers r
          → ((ss : List Record) → walk read ending (i + 1) (at + size_of m) ms ≡ listed ss headers
          → Each (Other j) ss)
          → Each (Other j) rs
      go unknown l following = following rs l
      go (faulty fault) l following = absurd l
      go (points ps) l following =
          let own = others_own j i at m ps (λ q. absurd (omega arith)) in
          let P : Record → Type 0 = Other j in
          subst (Each P) (sym l.2) (each_append P (map (record_of i at m.id) ps) l.0 own (following l.0 l.1))

  -- The records with the index of the first model of a walk.
  first_records : (m : Model) (following : List Model) (i at : ℕ) (rs : List Record) (headers : ℕ)
      → walk read ending i at (m ∷ following) ≡ listed rs headers → RecordsOf i at m rs (read m)
  first_records m following i at rs headers e = go (read m) (walk_listed i at m following rs headers e)
    where
      none_after : (ss : List Record) → walk read ending (i + 1) (at + size_of m) following ≡ listed ss headers
          → records_with i ss ≡ []
      none_after ss q = selected_none (λ r. eqb r.index i) ss (records_above following (i + 1) (at + size_of m) ss headers q i (omega arith))

      go : (r : Reading) → Listed i at m following rs headers r → RecordsOf i at m rs r
      go unknown l = none_after rs l
      go (faulty fault) l = l
      go (points ps) l =
          let own = map (record_of i at m.id) ps in
          ap (records_with i) l.2
          ∙ selected_append (λ r. eqb r.index i) own l.0
          ∙ ap (λ ss. records_with i own ++ ss) (none_after l.0 l.1)
          ∙ append-nil (records_with i own)
          ∙ with_own i at m ps

  -- Records of another index before them change nothing.
  after_others : (j a : ℕ) (m : Model) (own ss rs : List Record) → Each (Other j) own → rs ≡ own ++ ss
      → (r : Reading) → RecordsOf j a m ss r → RecordsOf j a m rs r
  after_others j a m own ss rs others e r =
      let same : records_with j rs ≡ records_with j ss =
      ap (records_with j) e ∙ selected_append (λ r. eqb r.index j) own ss
      ∙ ap (λ os. os ++ records_with j ss) (selected_none (λ r. eqb r.index j) own others) in
      go r same
    where
      go : (r : Reading) → records_with j rs ≡ records_with j ss → RecordsOf j a m ss r → RecordsOf j a m rs r
      go unknown same t = same ∙ t
      go (faulty fault) same t = t
      go (points ps) same t = same ∙ t

  -- The records with the index of any model of the map.
  pub model_records : (preceding : List Model) (m : Model) (following : List Model) (i at : ℕ) (rs : List Record) (headers : ℕ)
      → walk read ending i at (preceding ++ m ∷ following) ≡ listed rs headers
      → (j a : ℕ) → j ≡ i + length preceding → a ≡ at + total_size preceding → RecordsOf j a m rs (read m)
  model_records [] m following i at rs headers e j a p q =
      let p' : i ≡ j = omega (arith, p) in
      let q' : at ≡ a = omega (arith, q) in
      subst (λ x. RecordsOf j x m rs (read m)) q'
      (subst (λ x. RecordsOf x at m rs (read m)) p' (first_records m following i at rs headers e))
  model_records (f ∷ preceding) m following i at rs headers e j a p q =
      go (read f) (walk_listed i at f (preceding ++ m ∷ following) rs headers e)
      (λ ss l. model_records preceding m following (i + 1) (at + size_of f) ss headers l j a (omega arith) (omega arith))
    where
      go : (r : Reading) → Listed i at f (preceding ++ m ∷ following) rs headers r
          → ((ss : List Record) → walk read ending (i + 1) (at + size_of f) (preceding ++ m ∷ following) ≡ listed ss headers
          → RecordsOf j a m ss (read m))
          → RecordsOf j a m rs (read m)
      go unknown l rest = rest rs l
      go (faulty fault) l rest = absurd l
      go (points ps) l rest =
          after_others j a m (map (record_of i at f.id) ps) l.0 rs (others_own j i at f ps (λ same. absurd (omega arith))) l.2
          (read m) (rest l.0 l.1)
