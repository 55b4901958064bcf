-- A map made of whole models is not refused as a whole, and its models end at the end marker. The same holds after insertion.
use mathlib.Core.Path.{◌≡◌, ap, ◌∙◌}
use mathlib.Core.List.{List, []}
use mathlib.Core.Option.{none}
use Prim.Native.Nat.{ℕ, ◌≤◌}
use lib.ListN.{length}
use Rattle.lists.specs.Each.{Each}
use Rattle.register_map.specs.Headers.{opening}
use Rattle.register_map.specs.Scan.{Model, marked, Scan, scan, WellFormed}
use Rattle.register_map.specs.Insertion.{all_models, placed, lengthened}
use Rattle.register_map.proofs.HeaderLaws.{opening_none, opening_with_sun_s_lem}
use Rattle.register_map.proofs.Lengthened.{lengthened_begins, lengthened_scan}
use Rattle.listing.proofs.ListingInversion.{headers_walked, listed_walks}
use Rattle.stability.specs.Stability.{MadeOfWholeModels}

-- A map that is not refused as a whole, and has the models ms before its end marker.
pub record HasModels (map : List ℕ) (ms : List Model) : Type 0 where
  pub opens : opening map ≡ none
  pub scanned : scan map ≡ record { models = ms; ending = marked }

module _ (map : List ℕ) (whole : MadeOfWholeModels map) where
  pub whole_ends : (scan map).ending ≡ marked
  unfolding MadeOfWholeModels
  whole_ends = (headers_walked [] map (listed_walks [] map 0 [] whole.0 whole.1).0).1

  pub whole_models : HasModels map (scan map).models
  unfolding MadeOfWholeModels
  whole_models =
      record {
        opens = (listed_walks [] map 0 [] whole.0 whole.1).0.opens;
        scanned = ap {B = Scan} (λ x. record { models = (scan map).models; ending = x }) whole_ends;
      }

  pub lengthened_models : (gaps : List (List Model)) → Each (Each WellFormed) gaps → length (lengthened map gaps) ≤ 65536
      → HasModels (lengthened map gaps) (all_models (placed (scan map).models gaps))
  lengthened_models gaps f l =
      let begins = lengthened_begins map whole_ends gaps ∙ (opening_none map whole_models.opens).1 in
      record { opens = opening_with_sun_s_lem (lengthened map gaps) l begins; scanned = lengthened_scan map whole_ends gaps f }
