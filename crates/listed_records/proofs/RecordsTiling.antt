-- The records of a known model tile its registers: the steps from the definition that reads it to the records of a listing.
use mathlib.Core.Path.{◌≡◌, refl, sym, ap, subst, ◌∙◌}
use mathlib.Core.Bool.{true, false}
use mathlib.Core.List.{List, [], ◌∷◌, ◌++◌, map}
use Prim.Native.Nat.{ℕ, ◌+◌}
use native.Mathlib.Omega.{arith}
use borrow.Author.Tests.{eq-eqb, ne_eqb}
use lib.ListN.{length}
use Rattle.lists.specs.Members.{among, Distinct, In, first, later}
use Rattle.lists.proofs.EachLaws.{each_one, each_map, each_all}
use Rattle.lists.proofs.TestOutcomes.{clash}
use Rattle.catalog.specs.Checking.{accepted, checked}
use Rattle.model_definitions.specs.Definitions.{Definition, definitions}
use Rattle.model_definitions.specs.Soundness.{SoundDefinition, ids_of}
use Rattle.model_definitions.proofs.AcceptedIsSound.{accepted_is_sound}
use Rattle.model_definitions.proofs.GroupNumbers.{among_later}
use Rattle.register_map.specs.Scan.{Model, size_of, total_size, scan}
use Rattle.layout.specs.Points.{ModelPoint}
use Rattle.layout.specs.Reading.{Reading, unknown, faulty, points, read_by, reading}
use Rattle.layout.specs.Tiling.{defined_points, Tiles, PointsTile, BodyTiled}
use Rattle.layout.proofs.BodyTiling.{read_tiled}
use Rattle.layout.proofs.Readings.{not_unknown}
use Rattle.layout.proofs.ReadingSteps.{reading_here, reading_later, unknown_left}
use Rattle.listing.specs.Listing.{Record, record_of, listed, walk, listing}
use Rattle.listed_records.specs.Tiling.{RecordsTiled, records_with}
use Rattle.listing.proofs.ListingInversion.{listed_walks}
use Rattle.listed_records.proofs.ModelRecords.{RecordsOf, model_records}

-- ---- The definition of a model

-- The id of a definition of ds is among the ids of ds.
id_among : (d : Definition) (ds : List Definition) → In d ds → among d.id (ids_of ds) ≡ true
id_among d (other ∷ ds) first = rw (eq-eqb d.id d.id refl)
id_among d (other ∷ ds) (later o) = among_later d.id other.id (ids_of ds) (id_among d ds o)
id_among d [] i = elim i [ ]

-- A model is read by the definition of its id: no other has that id.
reading_known : (ds : List Definition) → Distinct (ids_of ds) → (d : Definition) → In d ds → (m : Model) → d.id ≡ m.id
    → reading ds m ≡ read_by m.id d.top m.body
reading_known (other ∷ ds) distinct d first m e = reading_here d ds m (eq-eqb d.id m.id e)
reading_known (other ∷ ds) distinct d (later o) m e =
    let differ : other.id ≡ m.id → ⊥ = λ q.
    clash (sym (id_among d ds o) ∙ ap (λ n. among n (ids_of ds)) (e ∙ sym q) ∙ distinct.0) in
    reading_later other ds m (ne_eqb other.id m.id differ) ∙ reading_known ds distinct.1 d o m e
reading_known [] distinct d i m e = elim i [ ]

-- ---- The points of one model

-- The points of a model, as an accepted catalog reads them, fill its body.
pub body_filled : (catalog : List ℕ) (n : ℕ) → checked catalog ≡ accepted n
    → (d : Definition) → In d (definitions catalog) → (m : Model) → d.id ≡ m.id
    → (ps : List ModelPoint) → reading (definitions catalog) m ≡ points ps → BodyTiled d (length m.body) ps
body_filled catalog n e d o m same ps r =
    let ds = definitions catalog in
    let s = (accepted_is_sound catalog n e).0 in
    read_tiled d (each_one SoundDefinition ds s.each d o) m.id m.body ps (sym (reading_known ds s.distinct d o m same) ∙ r)

-- ---- The records of a listing

-- If points tile a body, their records tile the model's registers.
pub records_tile : (i at : ℕ) (m : Model) (from to : ℕ) (ps : List ModelPoint) → PointsTile from to ps
    → Tiles (λ r. r.address) (λ r. r.point.definition.size) (at + 2 + from) (at + 2 + to) (map (record_of i at m.id) ps)
records_tile i at m from to [] t = ap (λ n. at + 2 + n) t
records_tile i at m from to (p ∷ ps) t =
    let r = records_tile i at m (from + p.definition.size) to ps t.2 in
    let same : at + 2 + (from + p.definition.size) ≡ at + 2 + from + p.definition.size = omega arith in (
      ap (λ n. at + 2 + n) t.0,
      t.1,
      subst (λ n. Tiles (λ r. r.address) (λ r. r.point.definition.size) n (at + 2 + to) (map (record_of i at m.id) ps)) same r,
    )

module _ (catalog registers : List ℕ) (capacity : ℕ) (rs : List Record) (headers : ℕ)
    (accept : listing catalog registers capacity ≡ listed rs headers)
    (preceding : List Model) (m : Model) (following : List Model) (splits : (scan registers).models ≡ preceding ++ m ∷ following) where
  -- The records with the model's index, by how the catalog reads it.
  records_of_model : RecordsOf (length preceding) (2 + total_size preceding) m rs (reading (definitions catalog) m)
  records_of_model =
      let read = reading (definitions catalog) in
      let ending = (scan registers).ending in
      let w = (listed_walks catalog registers capacity rs headers accept).0.walks in
      let v = subst (λ ms. walk read ending 0 2 ms ≡ listed rs headers) splits w in
      model_records read ending preceding m following 0 2 rs headers v (length preceding) (2 + total_size preceding) (omega arith) (omega arith)

  -- The records of a model that the catalog knows fill it, from the register after its length register to its last. (The header of
  -- the first model has address 2.)
  pub model_filled : (d : Definition) → In d (definitions catalog) → d.id ≡ m.id
      → RecordsTiled d (2 + total_size preceding + 2) (2 + total_size preceding + size_of m) (records_with (length preceding) rs)
  model_filled d o same = go (reading (definitions catalog) m) refl records_of_model
    where
      i : ℕ
      i = length preceding

      at : ℕ
      at = 2 + total_size preceding

      l : ℕ
      l = length m.body

      known : reading (definitions catalog) m ≡ unknown → ⊥
      known q =
          let w = (listed_walks catalog registers capacity rs headers accept).0 in
          let s = (accepted_is_sound catalog w.models w.accepted).0 in
          not_unknown m.id d.top m.body (sym (reading_known (definitions catalog) s.distinct d o m same) ∙ q)

      go : (r : Reading) → reading (definitions catalog) m ≡ r → RecordsOf i at m rs r
          → RecordsTiled d (at + 2) (at + size_of m) (records_with i rs)
      go unknown q t = absurd (known q)
      go (faulty fault) q t = absurd t
      go (points ps) q t =
          let w = (listed_walks catalog registers capacity rs headers accept).0 in
          let b = body_filled catalog w.models w.accepted d o m same ps q in
          let tiles = records_tile i at m 0 l ps b.tiles in
          let from : at + 2 + 0 ≡ at + 2 = omega arith in
          let to : at + 2 + l ≡ at + size_of m = omega arith in
          let own = map (record_of i at m.id) ps in
          let T : ℕ → ℕ → Type 0 = λ x y. Tiles (λ r. r.address) (λ r. r.point.definition.size) x y own in
          subst (RecordsTiled d (at + 2) (at + size_of m)) (sym t)
          (record {
            defined = each_map (λ r. In r.point.definition (defined_points d)) (record_of i at m.id) ps b.defined;
            tiles = subst (λ x. T x (at + size_of m)) from (subst (λ y. T (at + 2 + 0) y) to tiles);
            ids = each_map (λ r. r.id ≡ d.id) (record_of i at m.id) ps (each_all (λ p. m.id ≡ d.id) (λ p. sym same) ps);
          })

  -- A model that the catalog does not know has no record.
  pub nothing_unknown : among m.id (ids_of (definitions catalog)) ≡ false → records_with (length preceding) rs ≡ []
  nothing_unknown e =
      subst (RecordsOf (length preceding) (2 + total_size preceding) m rs) (unknown_left [] (definitions catalog) m e) records_of_model
