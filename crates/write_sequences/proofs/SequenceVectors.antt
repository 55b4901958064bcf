-- Writes in several orders, computed from the definitions: three writes to two points, one of them refused, in each allowed order and
-- in each that is not allowed, and calls for them; writes to points that are nearly the same, and to a point that does not exist.
use mathlib.Core.Path.{◌≡◌, refl, ap}
use mathlib.Core.Bool.{true}
use mathlib.Core.List.{List, [], ◌∷◌, map}
use Prim.Native.Nat.{ℕ}
use native.Mathlib.Omega.{arith}
use lib.ListN.{get_or}
use Rattle.std.specs.Prelude.{Ok, Err}
use Rattle.refusals.specs.declared.Refusal.{Refusal}
use Rattle.lists.specs.Each.{Each}
use Rattle.lists.specs.Runs.{state_after, handled}
use Rattle.lists.specs.Orders.{picked}
use Rattle.lists.proofs.EachLaws.{each_implied}
use Rattle.lists.proofs.RearrangingTest.{is_rearrangement, tested}
use Rattle.listed_records.proofs.ListingVectors.{model, times, uint16, scaled, sunssf, end, joined, body}
use Rattle.writing.specs.Writing.{refused_result, written_result}
use Rattle.writing.specs.CodeTypes.{Written}
use Rattle.writing.proofs.WritingVectors.{computing_writes, writable, catalog, plant, plant_with, instance}
use Rattle.write_sequences.specs.Writes.{Write, same_point, map_after_writes, write_results}
use Rattle.write_sequences.specs.AnyOrder.{Allowed, EndsAlike}
use Rattle.write_sequences.specs.Calls.{WriteCalls, no_call, call, CallsEndAlike}
use Rattle.write_sequences.proofs.AnyOrder.{any_order}
use Rattle.write_sequences.proofs.AnyOrderCalls.{results_in, any_order_calls}

-- A write to a point of the model with index 1.
abbrev to : ℕ → List ℕ → ℕ → Write
to number path raw = record { index = 1; number = number; path = path; raw = raw }

-- The write at a position past the end: there is no such position in an order.
abbrev past_end : Write
past_end = to 0 [] 0

-- ---- Three writes to two points

-- The uint32 (point 1) is written twice. Between the two, the scale factor of instance 0 is to be 11, which is refused.
abbrev three : List Write
three = to 1 (instance 0) 0x30004 ∷ to 7 (instance 0) 11 ∷ to 1 (instance 0) 0x50006 ∷ []

-- The orders that keep the two writes to the uint32 in order,
abbrev allowed_orders : List (List ℕ)
allowed_orders = (0 ∷ 1 ∷ 2 ∷ []) ∷ (0 ∷ 2 ∷ 1 ∷ []) ∷ (1 ∷ 0 ∷ 2 ∷ []) ∷ []

-- and those that do not.
abbrev other_orders : List (List ℕ)
other_orders = (1 ∷ 2 ∷ 0 ∷ []) ∷ (2 ∷ 0 ∷ 1 ∷ []) ∷ (2 ∷ 1 ∷ 0 ∷ []) ∷ []

-- In each allowed order the map ends the same, with the second value in the uint32; the refused write is refused wherever it is made.
pub three_writes : (map (λ order. map_after_writes catalog plant (picked past_end three order)) allowed_orders
    ≡ plant_with 5 6 0 11 ∷ plant_with 5 6 0 11 ∷ plant_with 5 6 0 11 ∷ [])
    × (map (λ order. results_in (write_results catalog plant (picked past_end three order))) allowed_orders
    ≡ (written_result ∷ refused_result 35 0 ∷ written_result ∷ [])
    ∷ (written_result ∷ written_result ∷ refused_result 35 0 ∷ [])
    ∷ (refused_result 35 0 ∷ written_result ∷ written_result ∷ [])
    ∷ [])
unfolding state_after handled computing_writes
three_writes = (refl, refl)

-- In the other orders the uint32 ends with its first value.
pub order_matters : map (λ order. map_after_writes catalog plant (picked past_end three order)) other_orders
    ≡ plant_with 3 4 0 11 ∷ plant_with 3 4 0 11 ∷ plant_with 3 4 0 11 ∷ []
unfolding state_after computing_writes
order_matters = refl

-- That is another map: its register 7 differs.
pub maps_differ : plant_with 3 4 0 11 ≡ plant_with 5 6 0 11 → ⊥
maps_differ e = let register = ap (λ registers. get_or registers 7 0) e in omega (arith, register)

-- The first three orders are allowed,
pub three_allowed : Each (Allowed past_end three) allowed_orders
three_allowed = (
  tested same_point past_end three (0 ∷ 1 ∷ 2 ∷ []) refl,
  (tested same_point past_end three (0 ∷ 2 ∷ 1 ∷ []) refl, (tested same_point past_end three (1 ∷ 0 ∷ 2 ∷ []) refl, tt)),
)

-- so the claim holds of them;
pub three_alike : Each (EndsAlike catalog plant past_end three) allowed_orders
three_alike =
    each_implied (Allowed past_end three) (EndsAlike catalog plant past_end three) (any_order catalog plant past_end three) allowed_orders
    three_allowed

-- the other three are not.
pub others_not_allowed : Each (λ order. Allowed past_end three order → ⊥) other_orders
others_not_allowed = (
  λ a. let h = a.keeps.1.0.0 refl in omega arith,
  (λ a. let h = a.keeps.0.0 refl in omega arith, (λ a. let h = a.keeps.0.1.0 refl in omega arith, tt)),
)

-- ---- Calls for the three writes

-- What a call returns that is refused with 35.
abbrev no_value : Written
no_value = Err (record { refusal = Refusal.NoValueOfPoint; place = 0 })

-- Calls in the order of the list: what they return, and the map that the last one leaves.
pub three_calls : WriteCalls catalog plant three (Ok tt ∷ no_value ∷ Ok tt ∷ []) (plant_with 5 6 0 11)
unfolding computing_writes
three_calls =
    call {between = plant_with 3 4 0 11} (record { result = refl; leaves = refl })
    (call {between = plant_with 3 4 0 11} (record { result = refl; leaves = refl })
    (call {between = plant_with 5 6 0 11} (record { result = refl; leaves = refl }) no_call))

-- Calls with the refused write last.
pub refused_last : WriteCalls catalog plant (picked past_end three (0 ∷ 2 ∷ 1 ∷ []))
    (Ok tt ∷ Ok tt ∷ no_value ∷ []) (plant_with 5 6 0 11)
unfolding computing_writes
refused_last =
    call {between = plant_with 3 4 0 11} (record { result = refl; leaves = refl })
    (call {between = plant_with 5 6 0 11} (record { result = refl; leaves = refl })
    (call {between = plant_with 5 6 0 11} (record { result = refl; leaves = refl }) no_call))

-- The claim on calls, of these.
pub calls_alike : CallsEndAlike (0 ∷ 2 ∷ 1 ∷ []) (Ok tt ∷ no_value ∷ Ok tt ∷ []) (plant_with 5 6 0 11)
    (Ok tt ∷ Ok tt ∷ no_value ∷ []) (plant_with 5 6 0 11)
calls_alike =
    any_order_calls catalog plant past_end three (0 ∷ 2 ∷ 1 ∷ []) three_allowed.1.0
    (Ok tt ∷ no_value ∷ Ok tt ∷ []) (plant_with 5 6 0 11) three_calls
    (Ok tt ∷ Ok tt ∷ no_value ∷ []) (plant_with 5 6 0 11) refused_last

-- ---- Two writes to points that are nearly the same

-- Both orders of two writes.
abbrev both_orders : List (List ℕ)
both_orders = (0 ∷ 1 ∷ []) ∷ (1 ∷ 0 ∷ []) ∷ []

-- Model 900 has groups at levels 2, 3 and 4 with a uint16 each. The one at level 4, with access RW, has two instances.
abbrev deep_catalog : List ℕ
deep_catalog =
    joined (
    model 900 ∷ times 1 1 ∷ uint16 2 ∷ times 3 1 ∷ uint16 4 ∷ times 5 2 ∷ writable (uint16 6) ∷ end ∷ end ∷ end ∷ end ∷ [])

-- Its map, by the two instances at level 4.
abbrev deep_plant : ℕ → ℕ → List ℕ
deep_plant a b = body (7 ∷ 8 ∷ a ∷ b ∷ [])

-- Writes to the two instances: their paths differ in the third number.
abbrev two_instances : List Write
two_instances = to 6 (0 ∷ 0 ∷ 0 ∷ []) 10 ∷ to 6 (0 ∷ 0 ∷ 1 ∷ []) 20 ∷ []

-- Model 900 has an int16 and its scale factor, both with access RW.
abbrev scaled_catalog : List ℕ
scaled_catalog = joined (model 900 ∷ writable (scaled 1 2) ∷ writable (sunssf 2) ∷ end ∷ [])

-- Writes to both: the second changes the status and the scale of the first point's record.
abbrev point_and_factor : List Write
point_and_factor = to 1 (instance 0) 250 ∷ to 2 (instance 0) 0xFFFE ∷ []

-- A map with model 900 twice, by the registers of both.
abbrev two_models : ℕ → ℕ → ℕ → ℕ → List ℕ
two_models a b c d = 0x5375 ∷ 0x6E53 ∷ 1 ∷ 1 ∷ 7 ∷ 900 ∷ 2 ∷ a ∷ b ∷ 900 ∷ 2 ∷ c ∷ d ∷ 0xFFFF ∷ 0 ∷ []

-- Writes to the same point of both models.
abbrev in_two_models : List Write
in_two_models = to 1 (instance 0) 250 ∷ record { index = 2; number = 1; path = instance 0; raw = 350 } ∷ []

-- In both orders the map ends the same.
pub two_writes : (map (λ order. map_after_writes deep_catalog (deep_plant 1 2) (picked past_end two_instances order)) both_orders
    ≡ deep_plant 10 20 ∷ deep_plant 10 20 ∷ [])
    × (map (λ order. map_after_writes scaled_catalog (body (200 ∷ 11 ∷ [])) (picked past_end point_and_factor order)) both_orders
    ≡ body (250 ∷ 0xFFFE ∷ []) ∷ body (250 ∷ 0xFFFE ∷ []) ∷ [])
    × (map (λ order. map_after_writes scaled_catalog (two_models 200 0 300 0) (picked past_end in_two_models order)) both_orders
    ≡ two_models 250 0 350 0 ∷ two_models 250 0 350 0 ∷ [])
unfolding state_after computing_writes
two_writes = (refl, refl, refl)

-- Both orders are allowed, since the points differ.
pub both_allowed : Each (λ ws. Each (Allowed past_end ws) both_orders) (two_instances ∷ point_and_factor ∷ in_two_models ∷ [])
both_allowed = (either two_instances refl refl, (either point_and_factor refl refl, (either in_two_models refl refl, tt)))
  where
    either : (ws : List Write) → is_rearrangement same_point past_end ws (0 ∷ 1 ∷ []) ≡ true
        → is_rearrangement same_point past_end ws (1 ∷ 0 ∷ []) ≡ true → Each (Allowed past_end ws) both_orders
    either ws e f = (tested same_point past_end ws (0 ∷ 1 ∷ []) e, (tested same_point past_end ws (1 ∷ 0 ∷ []) f, tt))

-- ---- Points and maps that writes cannot change

-- Two writes to a point that does not exist are to the same point, so they keep their order.
pub missing_not_exchanged : Allowed past_end (to 9 (instance 0) 1 ∷ to 9 (instance 0) 2 ∷ []) (1 ∷ 0 ∷ []) → ⊥
missing_not_exchanged a = let h = a.keeps.0.0 refl in omega arith

-- To a map that listing refuses, here the empty one, every write is refused with the same number and place, and the map stays.
pub map_refused : (map_after_writes catalog [] three ≡ [])
    × (results_in (write_results catalog [] three) ≡ refused_result 21 0 ∷ refused_result 21 0 ∷ refused_result 21 0 ∷ [])
unfolding state_after handled computing_writes
map_refused = (refl, refl)
