-- The remaining records are those with an id of the remaining catalog: ids are distinct, so choosing models is choosing ids.
use mathlib.Core.Path.{◌≡◌, refl, sym, ap, subst, ◌∙◌}
use mathlib.Core.Bool.{Bool, true, false}
use mathlib.Core.List.{List, [], ◌∷◌}
use Prim.Native.Nat.{ℕ}
use borrow.Author.Tests.{eqb-true, eqb-false, eq-eqb, ne_eqb}
use lib.Dec.{eqb}
use Rattle.lists.specs.Each.{Each}
use Rattle.lists.specs.Members.{among, Distinct}
use Rattle.lists.specs.Tests.{kept_by}
use Rattle.lists.proofs.TestOutcomes.{clash}
use Rattle.lists.proofs.TestLaws.{neither}
use Rattle.lists.proofs.EachLaws.{each_implied}
use Rattle.lists.proofs.SelectedLaws.{selected_same}
use Rattle.model_definitions.specs.Definitions.{Definition, definitions}
use Rattle.model_definitions.specs.Soundness.{ids_of}
use Rattle.model_definitions.specs.Removal.{keeping}
use Rattle.model_definitions.proofs.ModelIds.{ids_distinct}
use Rattle.model_definitions.proofs.Removal as catalogs
use Rattle.listing.specs.Listing.{Record, listed, listing}
use Rattle.listing.proofs.ListingInversion.{listed_walks}
use Rattle.stability.specs.Removed.{keeps_id, remaining_records, records_of}
use Rattle.stability.proofs.KnownRecords.{known_records_lem}

-- An id that no definition has is no id of the remaining definitions.
none_remains : (choice : List Bool) (ds : List Definition) (id : ℕ) → among id (ids_of ds) ≡ false
    → among id (ids_of (kept_by choice ds)) ≡ false
none_remains [] ds id e = e
none_remains (c ∷ choice) [] id e = e
none_remains (true ∷ choice) (d ∷ ds) id e =
    let h = (neither (eqb id d.id) (among id (ids_of ds))).0 e in rw h.0 (none_remains choice ds id h.1)
none_remains (false ∷ choice) (d ∷ ds) id e = none_remains choice ds id ((neither (eqb id d.id) (among id (ids_of ds))).0 e).1

-- The first test decides for the first definition's id, and the later tests for any other id.
module _ (c : Bool) (choice : List Bool) (d : Definition) (ds : List Definition) (id : ℕ) where
  keeps_first : eqb id d.id ≡ true → keeps_id (c ∷ choice) (d ∷ ds) id ≡ c
  unfolding keeps_id
  keeps_first e = rw (eq-eqb d.id id (sym (eqb-true id d.id e)), keeps_id)

  keeps_later : eqb id d.id ≡ false → keeps_id (c ∷ choice) (d ∷ ds) id ≡ keeps_id choice ds id
  unfolding keeps_id
  keeps_later e = rw (ne_eqb d.id id (λ q. eqb-false id d.id e (sym q)), keeps_id)

-- The definition of an id is kept if and only if the id is one of the remaining definitions' ids.
kept_by_id : (choice : List Bool) (ds : List Definition) (id : ℕ) → Distinct (ids_of ds) → among id (ids_of ds) ≡ true
    → keeps_id choice ds id ≡ among id (ids_of (kept_by choice ds))
unfolding keeps_id
kept_by_id [] ds id distinct e = sym e
kept_by_id (c ∷ choice) [] id distinct e = clash (sym e)
kept_by_id (c ∷ choice) (d ∷ ds) id distinct e = go (eqb id d.id) refl c (kept_by_id choice ds id distinct.1)
  where
    go : (b : Bool) → eqb id d.id ≡ b → (c : Bool)
        → (among id (ids_of ds) ≡ true → keeps_id choice ds id ≡ among id (ids_of (kept_by choice ds)))
        → keeps_id (c ∷ choice) (d ∷ ds) id ≡ among id (ids_of (kept_by (c ∷ choice) (d ∷ ds)))
    go true q true later = keeps_first true choice d ds id q ∙ rw q
    go true q false later =
        let same : d.id ≡ id = sym (eqb-true id d.id q) in
        let none : among id (ids_of ds) ≡ false = subst (λ n. among n (ids_of ds) ≡ false) same distinct.0 in
        keeps_first false choice d ds id q ∙ sym (none_remains choice ds id none)
    go false q true later = keeps_later true choice d ds id q ∙ rw q (later (rw q at e))
    go false q false later = keeps_later false choice d ds id q ∙ later (rw q at e)

-- Of records whose ids have definitions, the remaining ones are those with an id of the remaining definitions.
remaining_of_known : (choice : List Bool) (ds : List Definition) → Distinct (ids_of ds) → (rs : List Record)
    → Each (λ r. among r.id (ids_of ds) ≡ true) rs → remaining_records choice ds rs ≡ records_of (ids_of (kept_by choice ds)) rs
remaining_of_known choice ds distinct rs known =
    let kept = ids_of (kept_by choice ds) in
    selected_same (λ r. keeps_id choice ds r.id) (λ r. among r.id kept) rs
    (each_implied (λ r. among r.id (ids_of ds) ≡ true) (λ r. keeps_id choice ds r.id ≡ among r.id kept)
    (λ r. kept_by_id choice ds r.id distinct) rs known)

-- Of listed records, the remaining ones are those with an id of the remaining catalog.
pub remaining_by_id : (choice : List Bool) (catalog map : List ℕ) (capacity : ℕ) (rs : List Record) (headers : ℕ)
    → listing catalog map capacity ≡ listed rs headers
    → remaining_records choice (definitions catalog) rs ≡ records_of (ids_of (definitions (keeping choice catalog))) rs
remaining_by_id choice catalog map capacity rs headers e =
    let w = (listed_walks catalog map capacity rs headers e).0 in
    remaining_of_known choice (definitions catalog) (ids_distinct catalog w.models w.accepted) rs
    (known_records_lem catalog map capacity rs headers e)
    ∙ ap (λ ds. records_of (ids_of ds) rs) (sym (catalogs.removal choice catalog w.models w.accepted).1)
