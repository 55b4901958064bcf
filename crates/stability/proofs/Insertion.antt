-- Models inserted into a map (document 01, "The map", on models put in).
--
-- For every catalog, accepted or not, every map made of whole models, every list of well-formed unknown models for each of its
-- gaps, and every length of the output list: if the lengthened map has at most 65,536 registers, its answer is the answer for
-- the map, moved (`moved_answer`). So it is accepted if and only if the map is, and otherwise refused by the same number. The count
-- and order of the records stay, and so do each record's id, point number, instances, status, value and scale. Its address rises
-- by exactly the sum of 2 + length over the models inserted before it, and its model's index by their number. These are
-- the models whose addresses in the lengthened map are lower (`MovedByLower`). It is one claim over all inserted models.
-- `InsertionCalls` states it of two calls of `list`.
use mathlib.Core.Path.{◌≡◌, refl, ap, ◌∙◌}
use mathlib.Core.List.{List, [], ◌∷◌}
use Prim.Native.Nat.{ℕ, ◌+◌, ◌≤◌}
use lib.ListN.{length, length-map}
use Rattle.lists.specs.Each.{Each}
use Rattle.lists.proofs.EachLaws.{each_implied}
use Rattle.register_map.specs.Scan.{Model, total_size, scan, WellFormed}
use Rattle.register_map.specs.Insertion.{placed, lengthened, gaps_before}
use Rattle.register_map.proofs.PlacedModels.{placed_length}
use Rattle.register_map.proofs.Lengthened.{lengthened_scan, lengthened_length, lengthened_none}
use Rattle.listing.specs.Listing.{Record, record_numbers, Answer, refused, listed, listing, point_count}
use Rattle.stability.specs.Stability.{MadeOfWholeModels, UnknownModel, shifted, moved_answer, MovedByLower, refusal_number}
use Rattle.stability.proofs.WholeMaps.{whole_ends, whole_models, lengthened_models}
use Rattle.stability.proofs.ListingMoved.{listing_moved}

pub insertion : (catalog map : List ℕ) (gaps : List (List Model)) (capacity : ℕ)
    → MadeOfWholeModels map
    → Each (Each (UnknownModel catalog)) gaps
    → length (lengthened map gaps) ≤ 65536
    → (listing catalog (lengthened map gaps) capacity ≡ moved_answer (length (scan map).models) gaps (listing catalog map capacity))
    × MovedByLower (placed (scan map).models gaps) gaps (listing catalog map capacity)
insertion catalog map gaps capacity whole unknown short =
    let each = each_implied (UnknownModel catalog) WellFormed (λ m u. u.well_formed) in
    let well_formed = each_implied (Each (UnknownModel catalog)) (Each WellFormed) each gaps unknown in
    listing_moved catalog capacity map (lengthened map gaps) (scan map).models gaps (whole_models map whole)
    (lengthened_models map whole gaps well_formed short) unknown

-- ---- Parts of the claim

-- Of a record's ten numbers only the model's index and the address change.
pub shifted_numbers : (ms : List Model) (r : Record) → record_numbers (shifted ms r)
    ≡ (r.index + length ms)
    ∷ r.id
    ∷ r.point.definition.number
    ∷ r.point.level2
    ∷ r.point.level3
    ∷ r.point.level4
    ∷ (r.address + total_size ms)
    ∷ r.point.status
    ∷ r.point.raw
    ∷ r.point.scale
    ∷ []
unfolding record_numbers
shifted_numbers ms r = refl

-- The number of a refusal stays, and so does acceptance.
moved_number : (n : ℕ) (gaps : List (List Model)) (a : Answer) → refusal_number (moved_answer n gaps a) ≡ refusal_number a
unfolding moved_answer
moved_number n gaps (listed rs headers) = refl
moved_number n gaps (refused number place headers) = refl

-- The count of points stays.
moved_count : (n : ℕ) (gaps : List (List Model)) (a : Answer) → point_count (moved_answer n gaps a) ≡ point_count a
unfolding moved_answer
moved_count n gaps (listed rs headers) = length-map rs (λ r. shifted (gaps_before r.index gaps) r)
moved_count n gaps (refused number place headers) = refl

module _ (catalog map : List ℕ) (gaps : List (List Model)) (capacity : ℕ) (whole : MadeOfWholeModels map)
    (unknown : Each (Each (UnknownModel catalog)) gaps) (short : length (lengthened map gaps) ≤ 65536) where
  -- The lengthened map is accepted if and only if the map is, and otherwise both are refused by the same number.
  pub same_number : refusal_number (listing catalog (lengthened map gaps) capacity) ≡ refusal_number (listing catalog map capacity)
  same_number =
      ap refusal_number (insertion catalog map gaps capacity whole unknown short).0
      ∙ moved_number (length (scan map).models) gaps (listing catalog map capacity)

  pub same_count : point_count (listing catalog (lengthened map gaps) capacity) ≡ point_count (listing catalog map capacity)
  same_count =
      ap point_count (insertion catalog map gaps capacity whole unknown short).0
      ∙ moved_count (length (scan map).models) gaps (listing catalog map capacity)

-- ---- The lengthened map

module _ (map : List ℕ) (whole : MadeOfWholeModels map) where
  -- It is longer by the sum of 2 + length over the inserted models.
  pub lengthened_by : (gaps : List (List Model))
      → length (lengthened map gaps) ≡ length map + total_size (gaps_before (length (scan map).models) gaps)
  lengthened_by gaps = lengthened_length map (whole_ends map whole) gaps

  -- It has the models of the map and the inserted ones.
  pub models_more : (gaps : List (List Model)) → Each (Each WellFormed) gaps
      → length (scan (lengthened map gaps)).models
      ≡ length (scan map).models + length (gaps_before (length (scan map).models) gaps)
  models_more gaps f =
      ap {B = ℕ} (λ s. length s.models) (lengthened_scan map (whole_ends map whole) gaps f)
      ∙ placed_length (scan map).models gaps

  -- With none inserted it is the map as it was.
  pub none_inserted : lengthened map [] ≡ map
  none_inserted = lengthened_none map (whole_ends map whole)
