-- Models removed from a catalog (document 01, "The map", on striking out): the records that remain. A choice has one Boolean for
-- each definition, in order: true keeps it, false removes it. Definitions past the end of the choice are kept.
use Rattle.std.specs.Prelude.{Bool, true, false, List, [], ◌∷◌, ℕ, zero, suc, eqb}
use Rattle.lists.specs.Members.{among}
use Rattle.lists.specs.Tests.{selected}
use Rattle.model_definitions.specs.Definitions.{Definition}
use Rattle.register_map.specs.Scan.{Model}
use Rattle.listing.specs.Listing.{Record}

-- Is the first definition with id `id` kept? (True if there is none; every record has the id of a definition.)
unfoldable pub keeps_id : List Bool → List Definition → ℕ → Bool
keeps_id [] ds id = true
keeps_id (c ∷ choice) [] id = true
keeps_id (c ∷ choice) (d ∷ ds) id = elim (eqb d.id id) [ true ↦ c | false ↦ keeps_id choice ds id ]

-- The records of the models whose definitions are kept, in their order.
abbrev pub remaining_records : List Bool → List Definition → List Record → List Record
remaining_records choice ds = selected (λ r. keeps_id choice ds r.id)

-- Is the definition of model n kept? (True past the last model.)
unfoldable pub keeps_at : List Bool → List Definition → ℕ → List Model → Bool
keeps_at choice ds n [] = true
keeps_at choice ds zero (m ∷ ms) = keeps_id choice ds m.id
keeps_at choice ds (suc n) (m ∷ ms) = keeps_at choice ds n ms

-- The records whose id is one of `ids`, in their order.
abbrev pub records_of : List ℕ → List Record → List Record
records_of ids = selected (λ r. among r.id ids)
