-- Writes to worked plants, computed by the definitions: a scale factor in a group of two instances, a point that was out of range,
-- and each refusal.
use mathlib.Core.Path.{◌≡◌, refl, sym, ap}
use mathlib.Core.Bool.{Bool, true, false}
use mathlib.Core.List.{List, [], ◌∷◌, ◌++◌, map}
use mathlib.Core.Option.{Option, none, some}
use Prim.Native.Nat.{ℕ}
use lib.ListN.{take}
use Rattle.std.specs.Prelude.{Ok, Err}
use Rattle.refusals.specs.declared.Refusal.{Refusal}
use Rattle.lists.specs.Tests.{first_with}
use Rattle.registers.specs.Registers.{split}
use Rattle.model_definitions.specs.Definitions.{Content, definitions}
use Rattle.layout.specs.Reading.{top_of}
use Rattle.layout.specs.Paths.{depth_in}
use Rattle.listing.specs.Listing as Listing
use Rattle.listing.specs.Listing.{Record, all_records, listing}
use Rattle.listing.specs.Finding.{is_record, finding}
use Rattle.listed_records.proofs.Computing.{computing}
use Rattle.listed_records.proofs.ListingVectors.{Shown, listed, shown, model, times, point, uint16, scaled, sunssf, end, joined, body, row}
use Rattle.writing.specs.Writing.{refusal, rewritten, Answer, refused, written, map_after, writing, result}
use Rattle.writing.specs.AfterWriting.{is_scale_factor_of}
use Rattle.writing.specs.Calls.{WriteCall}
use Rattle.writing.specs.ReadBack.{ReadBack}
use Rattle.writing.specs.OtherRecords.{OtherRecords}
use Rattle.writing.proofs.WrittenReadsBack.{done_records, done_reads_back, done_other_records}

-- What a write computes with.
unfoldable pub computing_writes : Unit {0}
unfolding computing first_with finding split refusal rewritten writing
computing_writes = tt

-- ---- The plant

-- A point with access RW.
abbrev pub writable : List ℕ → List ℕ
writable p = take 7 p ++ 1 ∷ []

-- Model 900 has a uint32, a uint16 with access R, a string of five registers, a pad and an int16; and in a group of two instances
-- an int16 whose scale factor is the sunssf after it.
abbrev pub catalog : List ℕ
catalog =
    joined (
    model 900 ∷ writable (point 1 10 2) ∷ uint16 2 ∷ writable (point 3 19 5) ∷ writable (point 4 6 1) ∷ writable (point 8 1 1)
    ∷ times 5 2 ∷ scaled 6 7 ∷ writable (sunssf 7) ∷ end ∷ end ∷ [])

-- The map of a plant, by the two registers of its uint32, its pad and the scale factor of instance 1. The int16 of the top group
-- is unimplemented.
abbrev pub plant_with : ℕ → ℕ → ℕ → ℕ → List ℕ
plant_with high low pad factor =
    body (high ∷ low ∷ 5 ∷ 0x4142 ∷ 0 ∷ 0 ∷ 0 ∷ 0 ∷ pad ∷ 0x8000 ∷ 100 ∷ 0xFFFF ∷ 200 ∷ factor ∷ [])

-- The pad holds 0, and the scale factor of instance 1 is 11: both are out of range.
abbrev pub plant : List ℕ
plant = plant_with 1 2 0 11

-- The path to an instance of the group; that to instance 0 is also the path to the top group.
abbrev pub instance : ℕ → List ℕ
instance j = j ∷ 0 ∷ 0 ∷ []

-- ---- The scale factor of instance 1

-- The map after it is written, register by register.
abbrev rescaled_plant : List ℕ
rescaled_plant =
    0x5375 ∷ 0x6E53 ∷ 1 ∷ 1 ∷ 7 ∷ 900 ∷ 14
    ∷ 1 ∷ 2 ∷ 5 ∷ 0x4142 ∷ 0 ∷ 0 ∷ 0 ∷ 0 ∷ 0 ∷ 0x8000 ∷ 100 ∷ 0xFFFF ∷ 200 ∷ 0xFFFE
    ∷ 0xFFFF ∷ 0
    ∷ []

-- It is written -2: one register changes.
pub factor_written : writing catalog plant 1 7 (instance 1) 0xFFFE ≡ written rescaled_plant
unfolding computing_writes
factor_written = refl

-- A scale factor of 11 is refused.
pub eleven_refused : writing catalog plant 1 7 (instance 0) 11 ≡ refused 35 0
unfolding computing_writes
eleven_refused = refl

-- The records by the status and scale of the scaled point of instance 1, and by the status and raw value of its scale factor.
abbrev records_with : ℕ → ℕ → ℕ → ℕ → Shown
records_with status scale factor_status factor =
    listed (
    row 1 0 0 0 7 0 65538 0
    ∷ row 2 0 0 0 9 0 5 0
    ∷ row 3 0 0 0 10 0 0 0
    ∷ row 4 0 0 0 15 5 0 0
    ∷ row 8 0 0 0 16 1 32768 0
    ∷ row 6 0 0 0 17 0 100 65535
    ∷ row 7 0 0 0 18 0 65535 0
    ∷ row 6 1 0 0 19 status 200 scale
    ∷ row 7 1 0 0 20 factor_status factor 0
    ∷ []) 3

-- Before the write and after it: nothing else has changed.
pub records_changed : map (λ m. shown (listing catalog m 90)) (plant ∷ rescaled_plant ∷ [])
    ≡ records_with 4 0 5 11 ∷ records_with 0 65534 0 65534 ∷ []
unfolding computing
records_changed = refl

-- A call of `write` that returns `Ok` and leaves that map is as the contract says,
pub factor_call : WriteCall catalog plant 1 7 (instance 1) 0xFFFE (Ok tt) rescaled_plant
factor_call =
    record {
      result = sym (ap result factor_written);
      leaves = sym (ap (λ a. map_after a plant) factor_written);
    }

-- so the plant has records,
pub plant_records_lem : (before : List Record) × (headers : ℕ) × (all_records catalog plant ≡ Listing.listed before headers)
plant_records_lem = done_records catalog plant 1 7 (instance 1) 0xFFFE rescaled_plant factor_call

-- the point reads back,
pub factor_reads_back : ReadBack catalog plant plant_records_lem.0 plant_records_lem.1 plant_records_lem.2 1 7 (instance 1) 0xFFFE rescaled_plant
factor_reads_back =
    done_reads_back catalog plant 1 7 (instance 1) 0xFFFE rescaled_plant plant_records_lem.0 plant_records_lem.1 plant_records_lem.2
    factor_call

-- and the claim on all records holds.
pub others : OtherRecords catalog plant plant_records_lem.0 plant_records_lem.1 plant_records_lem.2 1 7 (instance 1) 0xFFFE rescaled_plant
others =
    done_other_records catalog plant 1 7 (instance 1) 0xFFFE rescaled_plant plant_records_lem.0 plant_records_lem.1 plant_records_lem.2
    factor_call

-- A call that returns 35 and leaves the plant as it was is as the contract says too: 11 is no scale factor.
pub refused_call : WriteCall catalog plant 1 7 (instance 0) 11 (Err (record { refusal = Refusal.NoValueOfPoint; place = 0 })) plant
refused_call =
    record {
      result = sym (ap result eleven_refused);
      leaves = sym (ap (λ a. map_after a plant) eleven_refused);
    }

-- For each record in turn: is the point with this number and path its scale factor?
abbrev scaled_by : ℕ → List ℕ → Listing.Answer → Option Content → List Bool
scaled_by number path (Listing.listed rs headers) (some top) =
    elim (first_with (is_record 1 number path) rs) [
      | none ↦ []
      | some w ↦ map (λ (r : Record). is_scale_factor_of top w.point r.point) rs
    ]
scaled_by number path (Listing.listed rs headers) none = []
scaled_by number path (Listing.refused n place headers) top = []

-- The scale factor of instance 1 is that of the scaled point of instance 1 only.
pub scaled_by_instance_1 : scaled_by 7 (instance 1) (all_records catalog plant) (top_of 900 (definitions catalog))
    ≡ false ∷ false ∷ false ∷ false ∷ false ∷ false ∷ false ∷ true ∷ false ∷ []
unfolding first_with depth_in computing
scaled_by_instance_1 = refl

-- ---- A point that was out of range

-- Model 900 has an acc64 with access RW, whose scale factor is the sunssf after it.
abbrev counter_catalog : List ℕ
counter_catalog = joined (model 900 ∷ (3 ∷ 1 ∷ 18 ∷ 4 ∷ 2 ∷ 2 ∷ 0 ∷ 1 ∷ []) ∷ sunssf 2 ∷ end ∷ [])

-- The map of such a plant, by the first and the last register of the acc64. The scale factor is -1.
abbrev counter_with : ℕ → ℕ → List ℕ
counter_with high low = body (high ∷ 0 ∷ 0 ∷ low ∷ 0xFFFF ∷ [])

-- The acc64 is above its range, and is written 230.
pub counter_written : writing counter_catalog (counter_with 0x8000 1) 1 1 (instance 0) 230 ≡ written (counter_with 0 230)
unfolding computing_writes
counter_written = refl

-- Before the write its status is 5. After it, the status is 0 and the scale is that of its scale point.
pub counter_scaled : map (λ m. shown (listing counter_catalog m 20)) (counter_with 0x8000 1 ∷ counter_with 0 230 ∷ [])
    ≡ listed (row 1 0 0 0 7 5 0x8000000000000001 0 ∷ row 2 0 0 0 11 0 65535 0 ∷ []) 3
    ∷ listed (row 1 0 0 0 7 0 230 65535 ∷ row 2 0 0 0 11 0 65535 0 ∷ []) 3
    ∷ []
unfolding computing
counter_scaled = refl

-- ---- A counter at 0 (change request 2)

-- Model 900 has an acc32 with access RW, mandatory (1) or optional (0), with the fixed scale factor -1.
abbrev meter_catalog : ℕ → List ℕ
meter_catalog flag = joined (model 900 ∷ (3 ∷ 1 ∷ 11 ∷ 2 ∷ 1 ∷ 0xFFFF ∷ flag ∷ 1 ∷ []) ∷ end ∷ [])

abbrev meter_with : ℕ → List ℕ
meter_with count = body (0 ∷ count ∷ [])

-- A mandatory counter at 0 can be written (34), and one that has counted can be reset to 0 (35); an optional one cannot.
pub counters_written : map (λ (flag : ℕ). writing (meter_catalog flag) (meter_with 0) 1 1 (instance 0) 5
    ∷ writing (meter_catalog flag) (meter_with 5) 1 1 (instance 0) 0 ∷ []) (1 ∷ 0 ∷ [])
    ≡ (written (meter_with 5) ∷ written (meter_with 0) ∷ []) ∷ (refused 34 0 ∷ refused 35 0 ∷ []) ∷ []
unfolding computing_writes
counters_written = refl

-- The 0 that was written reads back as a value.
pub reset_reads_back : map (λ (flag : ℕ). shown (listing (meter_catalog flag) (meter_with 0) 10)) (1 ∷ 0 ∷ [])
    ≡ listed (row 1 0 0 0 7 0 0 65535 ∷ []) 3 ∷ listed (row 1 0 0 0 7 1 0 0 ∷ []) 3 ∷ []
unfolding computing
reset_reads_back = refl

-- ---- Other writes

-- A write: the number of the point, its path, the raw value, and the answer.
pub record Write : Type 0 where
  pub number : ℕ
  pub path : List ℕ
  pub raw : ℕ
  pub answer : Answer

-- A write on one line.
abbrev write : ℕ → List ℕ → ℕ → Answer → Write
write n p r a = record { number = n; path = p; raw = r; answer = a }

-- Writes to the plant.
unfoldable pub writes : List Write
writes =
    -- The high register first
    write 1 (instance 0) 0x00030004 (written (plant_with 3 4 0 11))
    -- A pad can take 8000
    ∷ write 4 (instance 0) 0x8000 (written (plant_with 1 2 0x8000 11))
    -- 31: no such number, no such instance, and a point of the top group is in no instance 1
    ∷ write 9 (instance 0) 1 (refused 31 0)
    ∷ write 7 (instance 2) 1 (refused 31 0)
    ∷ write 1 (instance 1) 1 (refused 31 0)
    -- 32: access R
    ∷ write 2 (instance 0) 6 (refused 32 0)
    -- 33: five registers
    ∷ write 3 (instance 0) 1 (refused 33 0)
    -- 34: unimplemented
    ∷ write 8 (instance 0) 1 (refused 34 0)
    -- 35: the raw value is unimplemented, out of range or too wide; and a pad can take nothing but 8000
    ∷ write 7 (instance 0) 0x8000 (refused 35 0)
    ∷ write 7 (instance 0) 11 (refused 35 0)
    ∷ write 7 (instance 0) 0x10001 (refused 35 0)
    ∷ write 4 (instance 0) 0 (refused 35 0)
    ∷ []

-- Every write has the answer that the list says.
pub worked_writes : map (λ (w : Write). writing catalog plant 1 w.number w.path w.raw) writes
    ≡ map (λ (w : Write). w.answer) writes
unfolding writes computing_writes
worked_writes = refl
