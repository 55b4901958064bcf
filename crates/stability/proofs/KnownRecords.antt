-- Every record listed has the id of a definition.
use mathlib.Core.Path.{◌≡◌, refl, ap, ◌∙◌}
use mathlib.Core.Bool.{Bool, true, false}
use mathlib.Core.List.{List, []}
use Prim.Native.Nat.{ℕ}
use Rattle.lists.specs.Each.{Each}
use Rattle.lists.specs.Members.{among}
use Rattle.lists.proofs.TestOutcomes.{impossible}
use Rattle.lists.proofs.EachLaws.{each_any}
use Rattle.model_definitions.specs.Definitions.{Definition, definitions}
use Rattle.model_definitions.specs.Soundness.{ids_of}
use Rattle.register_map.specs.Scan.{Model, scan}
use Rattle.layout.specs.Points.{ModelPoint}
use Rattle.layout.specs.Reading.{points, reading}
use Rattle.layout.proofs.ReadingSteps.{unknown_left}
use Rattle.listing.specs.Listing.{Record, listed, listing}
use Rattle.listing.proofs.ListingInversion.{listed_walks}
use Rattle.listed_records.proofs.WalkedModels.{record_of_model}

-- If a model is read as points, its id is that of a definition.
known_model : (ds : List Definition) (m : Model) (ps : List ModelPoint) → reading ds m ≡ points ps → (b : Bool)
    → among m.id (ids_of ds) ≡ b → b ≡ true
known_model ds m ps e true a = refl
known_model ds m ps e false a = let u = unknown_left [] ds m a in impossible (cc)

-- Every record listed has the id of a definition of the catalog.
pub known_records_lem : (catalog map : List ℕ) (capacity : ℕ) (rs : List Record) (headers : ℕ)
    → listing catalog map capacity ≡ listed rs headers → Each (λ r. among r.id (ids_of (definitions catalog)) ≡ true) rs
known_records_lem catalog map capacity rs headers e =
    let ds = definitions catalog in
    let w = (listed_walks catalog map capacity rs headers e).0 in
    each_any (λ r. among r.id (ids_of ds) ≡ true) rs (λ r i.
    let m = record_of_model (reading ds) (scan map).ending (scan map).models 0 2 rs headers w.walks r i in
    ap (λ (s : Record). among s.id (ids_of ds)) m.place
    ∙ known_model ds m.own _ m.reads (among m.own.id (ids_of ds)) refl)
