-- The refusal of a write to a target, by the four tests in their order.
use mathlib.Core.Path.{◌≡◌, refl, sym, ap, ◌∙◌}
use mathlib.Core.Bool.{Bool, true, false}
use mathlib.Core.Option.{Option, none, some}
use Prim.Native.Nat.{ℕ}
use lib.Dec.{eqb, ltb}
use Rattle.values.specs.Classes.{is_unimplemented_class}
use Rattle.catalog_frames.specs.Frames.{read_only}
use Rattle.layout.specs.Points.{point_class}
use Rattle.listing.specs.Finding.{Target}
use Rattle.writing.specs.Writing.{can_hold, refusal}

-- The refusal by the outcomes of the tests of 32, 33, 34 and 35.
abbrev refusal_by_tests : Bool → Bool → Bool → Bool → Option ℕ
refusal_by_tests is_read_only is_long is_unimplemented holds =
    elim is_read_only [
      | true ↦ some 32
      | false ↦ elim is_long [
        | true ↦ some 33
        | false ↦ elim is_unimplemented [ true ↦ some 34 | false ↦ elim holds [ true ↦ none | false ↦ some 35 ] ]
      ]
    ]

module _ (t : Target) (raw : ℕ) where
  -- 32: is the access R?
  abbrev is_read_only : Bool
  is_read_only = eqb t.definition.access read_only

  -- 33: does it take over four registers?
  abbrev is_long : Bool
  is_long = ltb 4 t.definition.size

  -- 34: are its present registers unimplemented?
  abbrev is_unimplemented : Bool
  is_unimplemented = is_unimplemented_class (point_class t.definition t.raw)

  -- 35 unless this holds: can it hold the raw value?
  abbrev holds : Bool
  holds = can_hold t.definition raw

  -- The refusal is by these tests.
  by_tests : refusal_by_tests is_read_only is_long is_unimplemented holds ≡ refusal t raw
  unfolding refusal
  by_tests = refl

  -- It is 32 if the first test holds.
  pub access_refuses : is_read_only ≡ true → some 32 ≡ refusal t raw
  access_refuses a = sym (ap (λ b. refusal_by_tests b is_long is_unimplemented holds) a) ∙ by_tests

  module _ (a : is_read_only ≡ false) where
    -- If the first test fails, the others decide.
    past_access : refusal_by_tests false is_long is_unimplemented holds ≡ refusal t raw
    past_access = sym (ap (λ b. refusal_by_tests b is_long is_unimplemented holds) a) ∙ by_tests

    -- It is 33 if the second holds.
    pub size_refuses : is_long ≡ true → some 33 ≡ refusal t raw
    size_refuses w = sym (ap (λ b. refusal_by_tests false b is_unimplemented holds) w) ∙ past_access

    module _ (w : is_long ≡ false) where
      -- If the second fails too, the last two decide.
      past_size : refusal_by_tests false false is_unimplemented holds ≡ refusal t raw
      past_size = sym (ap (λ b. refusal_by_tests false b is_unimplemented holds) w) ∙ past_access

      -- It is 34 if the third holds.
      pub present_refuses : is_unimplemented ≡ true → some 34 ≡ refusal t raw
      present_refuses m = sym (ap (λ b. refusal_by_tests false false b holds) m) ∙ past_size

      module _ (m : is_unimplemented ≡ false) where
        -- If the first three fail, it is 35 or none by the last.
        pub value_decides : {b : Bool} → holds ≡ b → refusal_by_tests false false false b ≡ refusal t raw
        value_decides h =
            sym (ap (λ b. refusal_by_tests false false b holds) m ∙ ap (λ b. refusal_by_tests false false false b) h) ∙ past_size
