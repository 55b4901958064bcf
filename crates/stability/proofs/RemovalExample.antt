-- Removal on an example: a catalog of models 1 and 7, and a map with both and an unknown model between them.
use mathlib.Core.Path.{◌≡◌, refl, ap, ◌∙◌}
use mathlib.Core.List.{List, [], ◌∷◌}
use Prim.Native.Nat.{ℕ}
use lib.ListN.{replicate}
use Rattle.std.specs.Prelude.{Ok}
use Rattle.lists.specs.Tests.{selected}
use Rattle.catalog_frames.specs.Frames.{frame_of, frames_from, words_of_all}
use Rattle.model_definitions.specs.Definitions.{parsed, definitions}
use Rattle.model_definitions.specs.Removal.{keeping, all_but_one}
use Rattle.layout.specs.Points.{ModelPoint}
use Rattle.listing.specs.Listing.{Record, listed, listing, consecutive}
use Rattle.listing.specs.Calls.{ListCall, records_in}
use Rattle.listed_records.proofs.Computing.{computing}
use Rattle.stability.specs.Removed.{keeps_id, remaining_records}
use Rattle.stability.specs.TwoCalls.{Returned}
use Rattle.stability.proofs.Removal.{removal}
use Rattle.stability.proofs.RemovalCalls.{removal_calls}

-- Models 1 and 7, each of one uint16 point, numbered 1.
abbrev catalog : List ℕ
catalog =
    1 ∷ 1 ∷ 0 ∷ 0 ∷ 0 ∷ 0 ∷ 0 ∷ 0
    ∷ 3 ∷ 1 ∷ 2 ∷ 1 ∷ 0 ∷ 0 ∷ 0 ∷ 0
    ∷ 4 ∷ 0 ∷ 0 ∷ 0 ∷ 0 ∷ 0 ∷ 0 ∷ 0
    ∷ 1 ∷ 7 ∷ 0 ∷ 0 ∷ 0 ∷ 0 ∷ 0 ∷ 0
    ∷ 3 ∷ 1 ∷ 2 ∷ 1 ∷ 0 ∷ 0 ∷ 0 ∷ 0
    ∷ 4 ∷ 0 ∷ 0 ∷ 0 ∷ 0 ∷ 0 ∷ 0 ∷ 0
    ∷ []

-- A map with models 1, 9 and 7.
abbrev plant : List ℕ
plant = 0x5375 ∷ 0x6E53 ∷ 1 ∷ 1 ∷ 40 ∷ 9 ∷ 2 ∷ 0 ∷ 0 ∷ 7 ∷ 1 ∷ 50 ∷ 0xFFFF ∷ 0 ∷ []

-- The point of these models, with raw value `raw`.
abbrev point : ℕ → ModelPoint
point raw =
    record {
      offset = 0;
      definition = record { number = 1; type_code = 2; size = 1; scale_kind = 0; scale = 0; mandatory = 0; access = 0 };
      level2 = 0;
      level3 = 0;
      level4 = 0;
      status = 0;
      raw = raw;
      scale = 0;
    }

abbrev model1 : Record
model1 = record { index = 0; id = 1; address = 4; point = point 40 }

abbrev model7 : Record
model7 = record { index = 2; id = 7; address = 11; point = point 50 }

-- The listing by the whole catalog.
pub both_listed : listing catalog plant 20 ≡ listed (model1 ∷ model7 ∷ []) 4
unfolding computing
both_listed = refl

-- The remaining records without model 1.
pub model7_remains : remaining_records (all_but_one 0) (definitions catalog) (model1 ∷ model7 ∷ []) ≡ model7 ∷ []
unfolding frame_of frames_from parsed keeps_id selected
model7_remains = refl

-- The listing by the catalog without model 1.
pub model7_listed : listing (keeping (all_but_one 0) catalog) plant 20 ≡ listed (model7 ∷ []) 4
model7_listed =
    removal (all_but_one 0) catalog plant 20 (model1 ∷ model7 ∷ []) 4 both_listed ∙ ap (λ ss. listed ss 4) model7_remains

-- ---- Two calls, each with a list of 21 entries, all 9

abbrev out : List ℕ
out = replicate 21 9

-- The call by the whole catalog writes both records; the last entry stays.
abbrev first_list : List ℕ
first_list = 0 ∷ 1 ∷ 1 ∷ 0 ∷ 0 ∷ 0 ∷ 4 ∷ 0 ∷ 40 ∷ 0 ∷ 2 ∷ 7 ∷ 1 ∷ 0 ∷ 0 ∷ 0 ∷ 11 ∷ 0 ∷ 50 ∷ 0 ∷ 9 ∷ []

first_call : ListCall catalog plant out (Ok (record { points = 2; headers = 4 })) first_list
unfolding computing
first_call = record { result = refl; list = refl }

-- Every call by the catalog without model 1 leaves the record of model 7 in its output list, and the other entries as they were.
pub second_list_lem : (second : Returned) (second_list : List ℕ)
    → ListCall (keeping (all_but_one 0) catalog) plant out second second_list
    → second_list ≡ 2 ∷ 7 ∷ 1 ∷ 0 ∷ 0 ∷ 0 ∷ 11 ∷ 0 ∷ 50 ∷ 0 ∷ replicate 11 9
unfolding frame_of frames_from words_of_all parsed keeping selected records_in consecutive
second_list_lem second second_list call =
    (removal_calls (all_but_one 0) catalog plant out out refl 2 4 first_list first_call second second_list call).list
