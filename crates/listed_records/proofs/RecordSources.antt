-- The model of each record of a map, and the sound definition that reads it.
use mathlib.Core.Path.{◌≡◌, refl, sym, ap, subst, ◌∙◌}
use mathlib.Core.List.{List, ◌∷◌, ◌++◌}
use mathlib.Core.Option.{Option, none, some}
use Prim.Native.Nat.{ℕ, ◌+◌}
use native.Mathlib.Omega.{arith}
use lib.ListN.{length}
use Rattle.lists.specs.Members.{In}
use Rattle.lists.proofs.TestOutcomes.{impossible}
use Rattle.model_definitions.specs.Definitions.{Content, Definition, definitions}
use Rattle.model_definitions.specs.Soundness.{SoundDefinition}
use Rattle.register_map.specs.Scan.{Model, total_size, marked, scan, MadeOf}
use Rattle.register_map.proofs.MadeOfModels.{made_of_models}
use Rattle.layout.specs.Points.{ModelPoint}
use Rattle.layout.specs.Reading.{points, read_by, top_of, reading}
use Rattle.layout.specs.InternalWalks.{Accepted, points_of}
use Rattle.layout.proofs.AcceptedModels.{top_sound, read_known, read_unknown}
use Rattle.listing.specs.Listing.{Record, listed, all_records}
use Rattle.listing.proofs.ListingCases.{records_walk}
use Rattle.listing.proofs.ListingInversion.{headers_walked}
use Rattle.listed_records.proofs.WalkedModels.{record_of_model}

-- Model m is read as the points ps by the definition of its id, which is sound.
pub record KnownModel (catalog : List ℕ) (m : Model) (ps : List ModelPoint) : Type 0 where
  pub definition : Definition
  pub sound : SoundDefinition definition
  pub named : definition.id ≡ m.id
  pub known : top_of m.id (definitions catalog) ≡ some definition.top
  pub reads : read_by definition.id definition.top m.body ≡ points ps

-- Record r is that of a point of `own`, one of the models that the map is made of, and the catalog knows that model.
pub record Source (catalog map : List ℕ) (r : Record) : Type 0 where
  pub preceding : List Model
  pub own : Model
  pub following : List Model
  pub splits : (scan map).models ≡ preceding ++ own ∷ following
  pub made : MadeOf map (preceding ++ own ∷ following)
  pub all : List ModelPoint
  pub reads : reading (definitions catalog) own ≡ points all
  pub by : KnownModel catalog own all
  pub holds : In r.point all
  pub index : r.index ≡ length preceding
  pub id : r.id ≡ own.id
  pub address : r.address ≡ 2 + total_size preceding + 2 + r.point.offset

-- The catalog knows the id of such a record.
pub source_known : {catalog map : List ℕ} (r : Record) (o : Source catalog map r)
    → top_of r.id (definitions catalog) ≡ some o.by.definition.top
source_known {catalog} r o = ap (λ id. top_of id (definitions catalog)) o.id ∙ o.by.known

-- A model with any body is read by the definition of its id.
pub read_with : (ds : List Definition) (d : Definition) (id : ℕ) → d.id ≡ id → top_of id ds ≡ some d.top → (body : List ℕ)
    → reading ds (record { id = id; body = body }) ≡ read_by d.id d.top body
read_with ds d id named known body =
    read_known ds id body d.top known ∙ ap (λ k. read_by k d.top body) (sym named)

-- If an accepted catalog reads a model as points, the model is known.
known_model : (catalog : List ℕ) → Accepted catalog → (m : Model) (ps : List ModelPoint)
    → reading (definitions catalog) m ≡ points ps → KnownModel catalog m ps
known_model catalog accepted m ps e = go (top_of m.id (definitions catalog)) refl
  where
    go : (o : Option Content) → top_of m.id (definitions catalog) ≡ o → KnownModel catalog m ps
    go none t =
        let q = sym (read_unknown (definitions catalog) m.id m.body t) ∙ e in
        impossible (cc)
    go (some c) t =
        let d = top_sound catalog m.id c accepted t in
        let known = t ∙ ap some (sym d.3) in
        record {
          definition = d.0;
          sound = d.1;
          named = d.2;
          known = known;
          reads = sym (read_with (definitions catalog) d.0 m.id d.2 known m.body) ∙ e;
        }

-- Each record of a map has such a source.
pub record_source : (catalog map : List ℕ) (rs : List Record) (headers : ℕ) → all_records catalog map ≡ listed rs headers
    → (r : Record) → In r rs → Source catalog map r
record_source catalog map rs headers e r i =
    let read = reading (definitions catalog) in
    let walks = records_walk catalog map e in
    let ends : (scan map).ending ≡ marked = (headers_walked catalog map walks).1 in
    let o = record_of_model read (scan map).ending (scan map).models 0 2 rs headers walks.walks r i in
    let place = o.place in
    record {
      preceding = o.preceding;
      own = o.own;
      following = o.following;
      splits = o.splits;
      made = subst (MadeOf map) o.splits (made_of_models map ends);
      all = points_of (read o.own);
      reads = o.reads;
      by = known_model catalog (walks.models, walks.accepted) o.own (points_of (read o.own)) o.reads;
      holds = o.holds;
      index = let q = ap (λ r. r.index) o.place in omega arith;
      id = ap (λ r. r.id) o.place;
      address = ap (λ r. r.address) o.place;
    }
