-- Listing a map by a catalog (document 01, "Listing"): the answer, the records, and the output list.
use Rattle.std.specs.Prelude.{true, false, List, [], ◌∷◌, ◌++◌, map, ℕ, ◌+◌, ◌*◌, ltb, length, drop}
use Rattle.std.proofs.Math.Option.{none, some}
use Rattle.catalog.specs.Checking as Checking
use Rattle.model_definitions.specs.Definitions.{definitions}
use Rattle.register_map.specs.Headers.{opening}
use Rattle.register_map.specs.Scan.{Model, size_of, Ending, marked, broken, scan}
use Rattle.layout.specs.Points.{ModelPoint}
use Rattle.layout.specs.Reading.{Reading, unknown, faulty, points, fault_number, reading}

-- A record (document 01, "Listing"): the model's index (its place from 0, unknown models counted), its id, the point's address (0 is
-- that of the register 5375), and the point.
pub record Record : Type 0 where
  pub index : ℕ
  pub id : ℕ
  pub address : ℕ
  pub point : ModelPoint

-- A record has ten numbers.
abbrev pub record_width : ℕ
record_width = 10

-- The ten numbers of a record, in document 01's order.
unfoldable pub record_numbers : Record → List ℕ
record_numbers r =
    r.index
    ∷ r.id
    ∷ r.point.definition.number
    ∷ r.point.level2
    ∷ r.point.level3
    ∷ r.point.level4
    ∷ r.address
    ∷ r.point.status
    ∷ r.point.raw
    ∷ r.point.scale
    ∷ []

-- The record of point p of model `index`, whose id is `id` and whose header has address `at`.
abbrev pub record_of : ℕ → ℕ → ℕ → ModelPoint → Record
record_of index at id p = record { index = index; id = id; address = at + 2 + p.offset; point = p }

-- The answer of listing: a refusal's number, its place and the number of headers before the refused one (with 30: all); or the
-- records and the number of headers.
pub data Answer : Type 0 where
  refused : ℕ → ℕ → ℕ → Answer
  listed : List Record → ℕ → Answer

-- An answer with the records rs before its own. A refusal stays.
abbrev pub with_records : List Record → Answer → Answer
with_records rs (refused number place headers) = refused number place headers
with_records rs (listed ss headers) = listed (rs ++ ss) headers

-- The walk over models, the first of which is model `index` at address `at`: the first fault decides, with its header's address as
-- place and its index as headers. So does a header refused by 22 to 26. At the end marker the headers are models + 1.
unfoldable pub walk : (Model → Reading) → Ending → ℕ → ℕ → List Model → Answer
walk read marked index at [] = listed [] (index + 1)
walk read (broken number) index at [] = refused number at index
walk read ending index at (m ∷ ms) =
    elim (read m) [
      | unknown ↦ walk read ending (index + 1) (at + size_of m) ms
      | faulty fault ↦ refused (fault_number fault) at index
      | points ps ↦ with_records (map (record_of index at m.id) ps) (walk read ending (index + 1) (at + size_of m) ms)
    ]

-- The walk over a map from its first header, at address 2. `read` says what the catalog makes of a model.
abbrev pub walked : (Model → Reading) → List ℕ → Answer
walked read map = walk read (scan map).ending 0 2 (scan map).models

-- 20 and 21 (place 0, 0 headers), else the walk over the map.
unfoldable pub records_by : (Model → Reading) → List ℕ → Answer
records_by read map = elim (opening map) [ some number ↦ refused number 0 0 | none ↦ walked read map ]

-- 1 to 11 (the frame as place, 0 headers), then 20 to 29, else all records of the map, with no limit from the output list.
unfoldable pub all_records : List ℕ → List ℕ → Answer
all_records catalog map =
    elim (Checking.checked catalog) [
      | Checking.refused number place ↦ refused number place 0
      | Checking.accepted models ↦ records_by (reading (definitions catalog)) map
    ]

-- 30: the list has fewer than 10 × points entries. Its place is the number of points needed, its headers are models + 1.
unfoldable pub with_capacity : ℕ → Answer → Answer
with_capacity capacity (refused number place headers) = refused number place headers
with_capacity capacity (listed rs headers) =
    elim (ltb capacity (record_width * length rs)) [ true ↦ refused 30 (length rs) headers | false ↦ listed rs headers ]

-- Listing a map by a catalog, into a list of `capacity` entries: 30 last.
unfoldable pub listing : List ℕ → List ℕ → ℕ → Answer
listing catalog map capacity = with_capacity capacity (all_records catalog map)

-- ---- What a call returns and leaves in its output list

-- The count of points: 0 on a refusal.
abbrev pub point_count : Answer → ℕ
point_count (refused number place headers) = 0
point_count (listed rs headers) = length rs

-- Lists of numbers in one list, in order.
unfoldable pub consecutive : List (List ℕ) → List ℕ
consecutive [] = []
consecutive (ns ∷ nss) = ns ++ consecutive nss

-- The entries of records: the ten numbers of each.
abbrev pub entries : List Record → List ℕ
entries rs = consecutive (map record_numbers rs)

-- The output list after the call: the records' numbers, then the entries that were there; on a refusal the list as it was.
unfoldable pub stored : Answer → List ℕ → List ℕ
stored (refused number place headers) out = out
stored (listed rs headers) out = entries rs ++ drop (record_width * length rs) out

-- What a call returns: the count of points and the number of headers; or a refusal's number, its place, its number of headers and
-- the count of points, which document 01 sets to 0.
pub data Result : Type 0 where
  refused_result : (number place headers count : ℕ) → Result
  listed_result : (count headers : ℕ) → Result

-- The result of an answer.
abbrev pub result : Answer → Result
result (refused number place headers) = refused_result number place headers 0
result (listed rs headers) = listed_result (length rs) headers
