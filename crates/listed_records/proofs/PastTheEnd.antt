-- Registers past the end marker do not matter: the answer is the same without them.
use mathlib.Core.Path.{◌≡◌, refl, sym, ap, ◌∙◌}
use mathlib.Core.List.{List, ◌++◌}
use mathlib.Core.Option.{Option, none, some}
use Prim.Native.Nat.{ℕ, ◌≤◌}
use lib.ListN.{length}
use Rattle.catalog.specs.Checking as Checking
use Rattle.model_definitions.specs.Definitions.{definitions}
use Rattle.register_map.specs.Headers.{opening}
use Rattle.register_map.specs.Scan.{Model, marked, scan}
use Rattle.register_map.proofs.PastTheMarker.{scan_longer, opening_longer}
use Rattle.layout.specs.Reading.{Reading, reading}
use Rattle.listing.specs.Listing.{Record, listed, Answer, walk, records_by, with_capacity, listing}
use Rattle.listing.proofs.ListingCases.{catalog_refused_lem, accepted_listed, unopened, opened}
use Rattle.listing.proofs.ListingInversion.{headers_walked, listed_walks}

module _ (catalog map more : List ℕ) (capacity : ℕ) (ends : (scan map).ending ≡ marked) (fits : length (map ++ more) ≤ 65536) where
  -- By the opening of the map,
  by_opening : (read : Model → Reading) (o : Option ℕ) → opening map ≡ o
      → records_by read (map ++ more) ≡ records_by read map
  by_opening read (some n) o =
      unopened read (map ++ more) (opening_longer map more ends fits ∙ o) ∙ sym (unopened read map o)
  by_opening read none o =
      opened read (map ++ more) (opening_longer map more ends fits ∙ o)
      ∙ ap {B = Answer} (λ s. walk read s.ending 0 2 s.models) (scan_longer map more ends)
      ∙ sym (opened read map o)

  -- and by what checking the catalog results in.
  by_verdict : (v : Checking.Verdict) → Checking.checked catalog ≡ v
      → listing catalog (map ++ more) capacity ≡ listing catalog map capacity
  by_verdict (Checking.refused n place) c =
      catalog_refused_lem catalog (map ++ more) capacity c ∙ sym (catalog_refused_lem catalog map capacity c)
  by_verdict (Checking.accepted n) c =
      accepted_listed catalog (map ++ more) capacity c
      ∙ ap (with_capacity capacity) (by_opening (reading (definitions catalog)) (opening map) refl)
      ∙ sym (accepted_listed catalog map capacity c)

  -- This holds of a map whose models end at the marker, if it has at most 65,536 registers with `more` (refusal 20).
  pub past_the_end : listing catalog (map ++ more) capacity ≡ listing catalog map capacity
  past_the_end = by_verdict (Checking.checked catalog) refl

-- So it holds of a map that is listed.
pub listed_past_end : (catalog map more : List ℕ) (capacity : ℕ) (rs : List Record) (headers : ℕ)
    → listing catalog map capacity ≡ listed rs headers
    → length (map ++ more) ≤ 65536
    → listing catalog (map ++ more) capacity ≡ listed rs headers
listed_past_end catalog map more capacity rs headers e fits =
    let ends = (headers_walked catalog map (listed_walks catalog map capacity rs headers e).0).1 in
    past_the_end catalog map more capacity ends fits ∙ e
