-- Insertion on two examples: a map with models 1 and 7, two unknown models inserted after model 1 and one after model 7; and a battery
-- with a bitfield64 and a float64, two unknown models inserted before it and one after it.
use mathlib.Core.Path.{◌≡◌, refl, sym, ap, ◌∙◌}
use mathlib.Core.Bool.{false}
use mathlib.Core.List.{List, [], ◌∷◌}
use Prim.Native.Nat.{ℕ, ◌+◌, ◌≤◌}
use native.Mathlib.Omega.{arith}
use lib.ListN.{length, replicate}
use Rattle.std.specs.Prelude.{Ok}
use Rattle.lists.specs.Each.{Each}
use Rattle.lists.specs.Members.{among}
use Rattle.catalog_frames.specs.Frames.{frame_of, frames_from, frames}
use Rattle.model_definitions.specs.Definitions.{model_ids}
use Rattle.register_map.specs.Scan as Scan
use Rattle.register_map.specs.Scan.{Model, WellFormed, scan_from, scan}
use Rattle.register_map.specs.Insertion.{placed, lengthened, gaps_before}
use Rattle.layout.specs.Points.{ModelPoint}
use Rattle.listing.specs.Listing.{Record, Answer, listed, listing, listed_result, refused_result, consecutive}
use Rattle.listing.specs.CodeTypes.{to_spec_listing}
use Rattle.listing.specs.Calls.{ListCall, records_in}
use Rattle.listed_records.proofs.Computing.{computing}
use Rattle.stability.specs.Stability.{MadeOfWholeModels, UnknownModel, moved_answer, MovedByLower}
use Rattle.stability.specs.TwoCalls.{Returned, moved_result}
use Rattle.stability.proofs.Insertion.{insertion}
use Rattle.stability.proofs.InsertionCalls.{insertion_calls}

abbrev catalog : List ℕ
catalog =
    1 ∷ 1 ∷ 0 ∷ 0 ∷ 0 ∷ 0 ∷ 0 ∷ 0
    ∷ 3 ∷ 1 ∷ 2 ∷ 1 ∷ 0 ∷ 0 ∷ 0 ∷ 0
    ∷ 4 ∷ 0 ∷ 0 ∷ 0 ∷ 0 ∷ 0 ∷ 0 ∷ 0
    ∷ 1 ∷ 7 ∷ 0 ∷ 0 ∷ 0 ∷ 0 ∷ 0 ∷ 0
    ∷ 3 ∷ 1 ∷ 2 ∷ 1 ∷ 0 ∷ 0 ∷ 0 ∷ 0
    ∷ 4 ∷ 0 ∷ 0 ∷ 0 ∷ 0 ∷ 0 ∷ 0 ∷ 0
    ∷ []

-- A map with models 1 and 7, the end marker and a register after it.
abbrev plant : List ℕ
plant = 0x5375 ∷ 0x6E53 ∷ 1 ∷ 1 ∷ 40 ∷ 7 ∷ 1 ∷ 50 ∷ 0xFFFF ∷ 0 ∷ 77 ∷ []

abbrev gaps : List (List Model)
gaps =
    (record { id = 9; body = 0 ∷ 0 ∷ [] } ∷ record { id = 10; body = 5 ∷ [] } ∷ [])
    ∷ (record { id = 9; body = 1 ∷ 2 ∷ 3 ∷ [] } ∷ [])
    ∷ []

abbrev longer : List ℕ
longer = 0x5375 ∷ 0x6E53 ∷ 1 ∷ 1 ∷ 40 ∷ 9 ∷ 2 ∷ 0 ∷ 0 ∷ 10 ∷ 1 ∷ 5 ∷ 7 ∷ 1 ∷ 50 ∷ 9 ∷ 3 ∷ 1 ∷ 2 ∷ 3 ∷ 0xFFFF ∷ 0 ∷ 77 ∷ []

pub is_longer : lengthened plant gaps ≡ longer
unfolding scan_from scan placed lengthened Scan.model_registers
is_longer = refl

abbrev point : ℕ → ModelPoint
point raw =
    record {
      offset = 0;
      definition = record { number = 1; type_code = 2; size = 1; scale_kind = 0; scale = 0; mandatory = 0; access = 0 };
      level2 = 0;
      level3 = 0;
      level4 = 0;
      status = 0;
      raw = raw;
      scale = 0;
    }

abbrev model1 : Record
model1 = record { index = 0; id = 1; address = 4; point = point 40 }

pub old : listing catalog plant 20
    ≡ listed (model1 ∷ record { index = 1; id = 7; address = 7; point = point 50 } ∷ []) 3
unfolding computing
old = refl

whole : MadeOfWholeModels plant
unfolding MadeOfWholeModels computing
whole = (3, refl)

well : (id : ℕ) (x : ℕ) (xs : List ℕ) → (id ≡ 0 → ⊥) → (id ≡ 65535 → ⊥) → WellFormed (record { id = id; body = x ∷ xs })
well id x xs a b = record { not_zero = a; not_marker = b; not_empty = omega arith }

-- The inserted models are unknown to a catalog without the ids 9 and 10.
unknown_to : (c : List ℕ) → among 9 (model_ids (frames c)) ≡ false → among 10 (model_ids (frames c)) ≡ false → Each (Each (UnknownModel c)) gaps
unknown_to c no9 no10 =
    let nine : (x : ℕ) (xs : List ℕ) → UnknownModel c (record { id = 9; body = x ∷ xs }) =
    λ x xs. record { well_formed = well 9 x xs (λ q. omega arith) (λ q. omega arith); not_known = no9 } in
    let ten : UnknownModel c (record { id = 10; body = 5 ∷ [] }) =
    record { well_formed = well 10 5 [] (λ q. omega arith) (λ q. omega arith); not_known = no10 } in
    ((nine 0 (0 ∷ []), (ten, tt)), ((nine 1 (2 ∷ 3 ∷ []), tt), tt))

unknown : Each (Each (UnknownModel catalog)) gaps
unfolding frame_of frames_from
unknown = unknown_to catalog refl refl

-- By the claim, the listing of a lengthened map is the listing of the map, moved.
by_insertion : (capacity : ℕ) (c map long : List ℕ) → lengthened map gaps ≡ long → MadeOfWholeModels map → Each (Each (UnknownModel c)) gaps
    → length long ≤ 65536 → (answer moved : Answer) → listing c map capacity ≡ answer
    → moved_answer (length (scan map).models) gaps answer ≡ moved → listing c long capacity ≡ moved
by_insertion capacity c map long is w u l answer moved e m =
    ap (λ x. listing c x capacity) (sym is)
    ∙ ((insertion c map gaps capacity w u (rw is l)).0
    ∙ (ap (λ a. moved_answer (length (scan map).models) gaps a) e ∙ m))

short : length (lengthened plant gaps) ≤ 65536
short = rw is_longer (omega arith)

expected : moved_answer (length (scan plant).models) gaps
    (listed (model1 ∷ record { index = 1; id = 7; address = 7; point = point 50 } ∷ []) 3)
    ≡ listed (model1 ∷ record { index = 3; id = 7; address = 14; point = point 50 } ∷ []) 6
unfolding scan_from scan moved_answer gaps_before
expected = refl

pub new : listing catalog longer 20 ≡ listed (model1 ∷ record { index = 3; id = 7; address = 14; point = point 50 } ∷ []) 6
new = by_insertion 20 catalog plant longer is_longer whole unknown (omega arith) _ _ old expected

-- Each record is moved by exactly the inserted models with lower addresses.
pub lower : MovedByLower (placed (scan plant).models gaps) gaps (listing catalog plant 20)
lower = (insertion catalog plant gaps 20 whole unknown short).1

-- ---- Two calls, each with a list of 21 entries, all 9

abbrev out : List ℕ
out = replicate 21 9

-- The output list of the call for the map as it was.
abbrev first_list : List ℕ
first_list = 0 ∷ 1 ∷ 1 ∷ 0 ∷ 0 ∷ 0 ∷ 4 ∷ 0 ∷ 40 ∷ 0 ∷ 1 ∷ 7 ∷ 1 ∷ 0 ∷ 0 ∷ 0 ∷ 7 ∷ 0 ∷ 50 ∷ 0 ∷ 9 ∷ []

first_call : ListCall catalog plant out (Ok (record { points = 2; headers = 3 })) first_list
unfolding computing
first_call = record { result = refl; list = refl }

-- Every call for the lengthened map returns 2 points and 6 headers. In its output list only the index (3) and the address (14) of
-- model 7's record differ.
pub second_list_lem : (second : Returned) (second_list : List ℕ) → ListCall catalog (lengthened plant gaps) out second second_list
    → (to_spec_listing second ≡ listed_result 2 6)
    × (second_list ≡ 0 ∷ 1 ∷ 1 ∷ 0 ∷ 0 ∷ 0 ∷ 4 ∷ 0 ∷ 40 ∷ 0 ∷ 3 ∷ 7 ∷ 1 ∷ 0 ∷ 0 ∷ 0 ∷ 14 ∷ 0 ∷ 50 ∷ 0 ∷ 9 ∷ [])
unfolding scan_from scan gaps_before moved_result records_in consecutive
second_list_lem second second_list call =
    let m = insertion_calls catalog plant gaps whole unknown short out out refl _ first_list first_call second second_list call in
    (m.result, m.list)

-- Refusals, moved: 28 at model 7 rises by what was inserted before it, 30 keeps its place, and a refusal of the catalog stays.
pub refusals_moved : (moved_result 2 gaps (refused_result 28 5 1 0) ≡ refused_result 28 12 3 0)
    × (moved_result 2 gaps (refused_result 30 2 3 0) ≡ refused_result 30 2 6 0)
    × (moved_result 2 gaps (refused_result 7 4 0 0) ≡ refused_result 7 4 0 0)
unfolding gaps_before moved_result
refusals_moved = (refl, refl, refl)

-- ---- A battery: model 64920 with the points 1, a bitfield64, 2, a float64, and 3, a mandatory acc64 at 0

abbrev battery_catalog : List ℕ
battery_catalog =
    1 ∷ 64920 ∷ 0 ∷ 0 ∷ 0 ∷ 0 ∷ 0 ∷ 0
    ∷ 3 ∷ 1 ∷ 21 ∷ 4 ∷ 0 ∷ 0 ∷ 1 ∷ 0
    ∷ 3 ∷ 2 ∷ 22 ∷ 4 ∷ 0 ∷ 0 ∷ 1 ∷ 0
    ∷ 3 ∷ 3 ∷ 18 ∷ 4 ∷ 0 ∷ 0 ∷ 1 ∷ 0
    ∷ 4 ∷ 0 ∷ 0 ∷ 0 ∷ 0 ∷ 0 ∷ 0 ∷ 0
    ∷ []

-- Events 62 and 0, 1.5 kWh, and nothing discharged yet.
abbrev battery : List ℕ
battery = 0x5375 ∷ 0x6E53 ∷ 1 ∷ 1 ∷ 40 ∷ 64920 ∷ 12 ∷ 0x4000 ∷ 0 ∷ 0 ∷ 1 ∷ 0x3FF8 ∷ 0 ∷ 0 ∷ 0 ∷ 0 ∷ 0 ∷ 0 ∷ 0 ∷ 0xFFFF ∷ 0 ∷ []

-- The same unknown models: two after the common model, (2 + 2) + (2 + 1) = 7 registers, and one after the battery.
abbrev battery_longer : List ℕ
battery_longer =
    0x5375 ∷ 0x6E53 ∷ 1 ∷ 1 ∷ 40 ∷ 9 ∷ 2 ∷ 0 ∷ 0 ∷ 10 ∷ 1 ∷ 5
    ∷ 64920 ∷ 12 ∷ 0x4000 ∷ 0 ∷ 0 ∷ 1 ∷ 0x3FF8 ∷ 0 ∷ 0 ∷ 0 ∷ 0 ∷ 0 ∷ 0 ∷ 0 ∷ 9 ∷ 3 ∷ 1 ∷ 2 ∷ 3
    ∷ 0xFFFF ∷ 0 ∷ []

pub battery_is_longer : lengthened battery gaps ≡ battery_longer
unfolding scan_from scan placed lengthened Scan.model_registers
battery_is_longer = refl

-- The three records if the battery has the index `index` and its body begins at `address`.
abbrev battery_records : ℕ → ℕ → List Record
battery_records index address =
    let at : ℕ → ℕ → ℕ → ℕ → Record = λ number type_code offset raw.
    record {
      index = index;
      id = 64920;
      address = address + offset;
      point =
          record {
            offset = offset;
            definition =
                record { number = number; type_code = type_code; size = 4; scale_kind = 0; scale = 0; mandatory = 1; access = 0 };
            level2 = 0;
            level3 = 0;
            level4 = 0;
            status = 0;
            raw = raw;
            scale = 0;
          };
    } in
    at 1 21 0 0x4000000000000001 ∷ at 2 22 4 0x3FF8000000000000 ∷ at 3 18 8 0 ∷ []

pub battery_old : listing battery_catalog battery 30 ≡ listed (battery_records 1 7) 3
unfolding computing
battery_old = refl

battery_whole : MadeOfWholeModels battery
unfolding MadeOfWholeModels computing
battery_whole = (3, refl)

battery_unknown : Each (Each (UnknownModel battery_catalog)) gaps
unfolding frame_of frames_from
battery_unknown = unknown_to battery_catalog refl refl

battery_moved : moved_answer (length (scan battery).models) gaps (listed (battery_records 1 7) 3) ≡ listed (battery_records 3 14) 6
unfolding scan_from scan moved_answer gaps_before
battery_moved = refl

-- All points have moved by 7 registers, and the model's index by 2; status, raw value and scale factor are the same.
pub battery_new : listing battery_catalog battery_longer 30 ≡ listed (battery_records 3 14) 6
battery_new =
    by_insertion 30 battery_catalog battery battery_longer battery_is_longer battery_whole battery_unknown (omega arith) _ _ battery_old
    battery_moved
