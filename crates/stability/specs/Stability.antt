-- How models inserted into a map change its listing (document 01, "The map", on models put in).
use Rattle.std.specs.Prelude.{◌≡◌, Bool, true, false, ◌&&◌, List, [], map, ℕ, ◌+◌, eqb, leb, length}
use Rattle.std.proofs.Math.Option.{Option, none, some}
use Rattle.lists.specs.Each.{Each}
use Rattle.lists.specs.Members.{among}
use Rattle.catalog_frames.specs.Frames.{frames}
use Rattle.model_definitions.specs.Definitions.{model_ids}
use Rattle.register_map.specs.Scan.{Model, total_size, WellFormed}
use Rattle.register_map.specs.Insertion.{Placed, before, gaps_before}
use Rattle.listing.specs.Listing.{Record, Answer, refused, listed, listing}

-- The map is made of whole models: listing it by an empty catalog refuses with none of 20 to 26. (It has no records, so no 30.)
unfoldable pub MadeOfWholeModels : List ℕ → Type 0
MadeOfWholeModels map = (headers : ℕ) × (listing [] map 0 ≡ listed [] headers)

-- A well-formed unknown model: its id is neither 0 nor the end marker's, its length is 1 or more, and no model frame has its id.
pub record UnknownModel (catalog : List ℕ) (m : Model) : Type 0 where
  pub well_formed : WellFormed m
  pub not_known : among m.id (model_ids (frames catalog)) ≡ false

-- A record after the inserted models ms: its model's index rises by their number, its address by the sum of 2 + length over them.
-- Its id and its point (number, instances, status, raw value and scale) stay.
abbrev pub shifted : List Model → Record → Record
shifted ms r =
    record { index = r.index + length ms; id = r.id; address = r.address + total_size ms; point = r.point }

-- Is it the refusal of a model: 27, 28 or 29?
abbrev pub is_model_refusal : ℕ → Bool
is_model_refusal number = leb 27 number && leb number 29

-- The place of a refusal, moved. 27 to 29: it rises by the sum of 2 + length over the models inserted before the refused header,
-- which has `headers` headers before it. On any other number (1 to 11 and 30) it stays.
abbrev pub moved_place : List (List Model) → ℕ → ℕ → ℕ → ℕ
moved_place gaps number place headers =
    elim (is_model_refusal number) [ true ↦ place + total_size (gaps_before headers gaps) | false ↦ place ]

-- The headers of a refusal, moved, for a map with n models. 30: they rise by the number inserted. 27 to 29: by the number inserted
-- before the refused header. On any other number (1 to 11) they stay.
abbrev pub moved_headers : ℕ → List (List Model) → ℕ → ℕ → ℕ
moved_headers n gaps number headers =
    elim (eqb number 30) [
      | true ↦ headers + length (gaps_before n gaps)
      | false ↦ elim (is_model_refusal number) [ true ↦ headers + length (gaps_before headers gaps) | false ↦ headers ]
    ]

-- The answer for the lengthened map, by the answer for the map, which has n models. Acceptance: each record is shifted by the
-- models inserted before it, and the headers rise by the number inserted. A refusal keeps its number; place and headers are moved.
unfoldable pub moved_answer : ℕ → List (List Model) → Answer → Answer
moved_answer n gaps (listed rs headers) =
    listed (map (λ r. shifted (gaps_before r.index gaps) r) rs) (headers + length (gaps_before n gaps))
moved_answer n gaps (refused number place headers) =
    refused number (moved_place gaps number place headers) (moved_headers n gaps number headers)

-- What was at `address` in model `index` is moved by the models in the gaps before that model. In the lengthened map these are
-- exactly the inserted models with lower addresses (document 01's "before").
abbrev pub AreLower : List Placed → List (List Model) → ℕ → ℕ → Type 0
AreLower ps gaps index address = before 2 ps (address + total_size (gaps_before index gaps)) ≡ gaps_before index gaps

-- This holds for a header refused by 27 to 29.
abbrev pub HeaderByLower : List Placed → List (List Model) → ℕ → ℕ → ℕ → Type 0
HeaderByLower ps gaps number place headers = is_model_refusal number ≡ true → AreLower ps gaps headers place

-- This holds for each record of an answer, and for a refused header.
unfoldable pub MovedByLower : List Placed → List (List Model) → Answer → Type 0
MovedByLower ps gaps (listed rs headers) = Each (λ r. AreLower ps gaps r.index r.address) rs
MovedByLower ps gaps (refused number place headers) = HeaderByLower ps gaps number place headers

-- The number of a refusal; none on acceptance.
abbrev pub refusal_number : Answer → Option ℕ
refusal_number (refused number place headers) = some number
refusal_number (listed rs headers) = none
