-- The presence of a point decides for an accumulator at 0 and nowhere else, and an optional point is as it was before.
use mathlib.Core.Path.{◌≡◌, refl, sym, ap, subst, ◌∙◌}
use mathlib.Core.Bool.{Bool, true, false}
use mathlib.Core.List.{List, []}
use mathlib.Core.Logic.{inl, inr}
use mathlib.Core.Option.{Option, none, some}
use Prim.Native.Nat.{ℕ}
use native.Mathlib.Omega.{arith}
use borrow.Author.Tests.{ne_eqb}
use lib.IntN.{pos}
use Rattle.registers.specs.Registers.{too_wide}
use Rattle.point_types.specs.Presence.{Presence, mandatory, optional}
use Rattle.point_types.specs.Rows.{TypeRow, Unimplemented, never, rows, row_among, row_of, is_accumulator, unimplemented_for, AccumulatorCode}
use Rattle.point_types.proofs.Table.{row_in, accumulator_codes, accumulator_at_0}
use Rattle.values.specs.Classes as classes
use Rattle.values.specs.Classes.{integer, is_unimplemented, in_range, class_of, classified, Classified, of_class}
use Rattle.values.specs.Decoding as decoding
use Rattle.values.specs.Decoding.{number_of, pattern_in, value_by, value_of, decodable, decoded}
use Rattle.values.specs.Unscaled.{number, no_value, unscaled_by, unscaled}
use Rattle.values.specs.PresenceDecides.{CountsZero, HoldsZero, PresenceDecides, PresenceDecodes, PresenceUnscales, OptionalAsBefore, class_before, classified_before, decoded_before, unscaled_before}
use Rattle.values.proofs.ClassCases.{by_row, row_of_decodable}

-- The unimplemented pattern differs by the presence for an accumulator only, and that pattern is 0.
module _ (code raw : ℕ) (row : TypeRow) (is : row_of code ≡ some row) (other : CountsZero code raw → ⊥) where
  same_pattern : is_unimplemented (unimplemented_for row mandatory) raw ≡ is_unimplemented row.unimplemented raw
  same_pattern = go (is_accumulator row.kind) refl
    where
      go : (b : Bool) → is_accumulator row.kind ≡ b
          → is_unimplemented (elim b [ true ↦ never | false ↦ row.unimplemented ]) raw ≡ is_unimplemented row.unimplemented raw
      go true a =
          let apart = ne_eqb raw 0 (λ e. other ((accumulator_codes code row is).0 a, e)) in
          sym (ap (λ (u : Unimplemented). is_unimplemented u raw) (accumulator_at_0 code row is a) ∙ apart)
      go false a = refl

  same_class : class_of row mandatory raw ≡ class_of row optional raw
  unfolding class_of
  same_class = simp (class_of, same_pattern)

  same_classified : classified code mandatory raw ≡ classified code optional raw
  unfolding classified
  same_classified = grind (arith, classified, same_class)

-- The three accumulators at 0, computed.
at_zero : (code : ℕ) → AccumulatorCode code
    → (classified code mandatory 0 ≡ of_class classes.value) × (classified code optional 0 ≡ of_class classes.unimplemented)
unfolding rows row_among too_wide integer in_range class_of classified
at_zero code (inl e) = rw e (refl, refl)
at_zero code (inr (inl e)) = rw e (refl, refl)
at_zero code (inr (inr e)) = rw e (refl, refl)

abbrev ZeroDecoded : TypeRow → Type 0
ZeroDecoded row = (value_of row mandatory 0 ≡ decoding.unsigned 0) × (value_of row optional 0 ≡ decoding.unimplemented)

decoded_zero : (code : ℕ) (row : TypeRow) → decodable code ≡ some row → AccumulatorCode code → ZeroDecoded row
unfolding rows row_among integer in_range class_of number_of value_of decodable
decoded_zero code row is = go
  where
    of_row : (k : ℕ) → code ≡ k → ZeroDecoded (row_in (decodable k)) → ZeroDecoded row
    of_row k e = subst ZeroDecoded (ap row_in (sym (ap decodable e) ∙ is))

    go : AccumulatorCode code → ZeroDecoded row
    go (inl e) = of_row 3 e (refl, refl)
    go (inr (inl e)) = of_row 11 e (refl, refl)
    go (inr (inr e)) = of_row 18 e (refl, refl)

-- ---- The claims

-- For every code and raw value.
pub presence_decides : (code raw : ℕ) → PresenceDecides code raw
unfolding classified
presence_decides code raw =
    record {
      mandatory_zero = λ z. ap (classified code mandatory) z.1 ∙ (at_zero code z.0).0;
      optional_zero = λ z. ap (classified code optional) z.1 ∙ (at_zero code z.0).1;
      elsewhere = λ n. by_found (row_of code) refl n;
    }
  where
    by_found : (o : Option TypeRow) → row_of code ≡ o → (CountsZero code raw → ⊥) → classified code mandatory raw ≡ classified code optional raw
    by_found none e n = simp (classified, e)
    by_found (some row) e n = same_classified code raw row e n

-- So any raw value but 0 has the class that it has under an optional point.
pub not_zero_lem : (code : ℕ) (presence : Presence) (raw : ℕ) → (raw ≡ 0 → ⊥) → classified code presence raw ≡ classified code optional raw
not_zero_lem code mandatory raw n = (presence_decides code raw).elsewhere (λ z. n z.1)
not_zero_lem code optional raw n = refl

-- A mandatory accumulator is never unimplemented, whatever its raw value.
pub never_unimplemented : (code raw : ℕ) → AccumulatorCode code → classified code mandatory raw ≡ of_class classes.unimplemented → ⊥
unfolding classified class_of
never_unimplemented code raw a q = grind (arith, classified, class_of, accumulator_codes code)

-- For every code and any registers.
pub presence_decodes : (code : ℕ) (registers : List ℕ) → PresenceDecodes code registers
unfolding value_of decoded
presence_decodes code registers =
    record {
      mandatory_zero = λ z. at mandatory z ∙ (decoded_zero code z.0 z.1 z.2.0).0;
      optional_zero = λ z. at optional z ∙ (decoded_zero code z.0 z.1 z.2.0).1;
      elsewhere = λ n. by_found (decodable code) refl n;
    }
  where
    at : (presence : Presence) (z : HoldsZero code registers) → decoded code presence registers ≡ value_of z.0 presence 0
    at presence z = by_row code presence registers z.0 z.1 ∙ ap (value_of z.0 presence) z.2.1

    by_found : (o : Option TypeRow) → decodable code ≡ o → (HoldsZero code registers → ⊥)
        → decoded code mandatory registers ≡ decoded code optional registers
    by_found none e n = simp (decoded, e)
    by_found (some row) e n =
        let raw = pattern_in row registers in
        let class = same_class code raw row (row_of_decodable code row e) (λ z. n (row, e, z)) in
        let result : value_of row mandatory raw ≡ value_of row optional raw = simp (value_of, value_by, class) in
        by_row code mandatory registers row e ∙ result ∙ sym (by_row code optional registers row e)

unscaled_by_class : (code raw : ℕ) → classified code mandatory raw ≡ classified code optional raw
    → unscaled code mandatory raw ≡ unscaled code optional raw
unfolding unscaled
unscaled_by_class code raw e = ap (λ (c : Classified). unscaled_by code c raw) e

unscaled_zero : (code : ℕ) → AccumulatorCode code → (unscaled code mandatory 0 ≡ number (pos 0)) × (unscaled code optional 0 ≡ no_value)
unfolding rows row_among too_wide integer in_range class_of classified unscaled
unscaled_zero code (inl e) = rw e (refl, refl)
unscaled_zero code (inr (inl e)) = rw e (refl, refl)
unscaled_zero code (inr (inr e)) = rw e (refl, refl)

-- For every code and raw value.
pub presence_unscales : (code raw : ℕ) → PresenceUnscales code raw
presence_unscales code raw =
    record {
      mandatory_zero = λ z. ap (unscaled code mandatory) z.1 ∙ (unscaled_zero code z.0).0;
      optional_zero = λ z. ap (unscaled code optional) z.1 ∙ (unscaled_zero code z.0).1;
      elsewhere = λ n. unscaled_by_class code raw ((presence_decides code raw).elsewhere n);
    }

-- For every code, raw value and registers.
pub optional_as_before : (code raw : ℕ) (registers : List ℕ) → OptionalAsBefore code raw registers
unfolding class_of classified value_of decoded unscaled class_before classified_before decoded_before unscaled_before
optional_as_before code raw registers = record { class = refl; decodes = refl; unscales = refl }

-- So the class of any point is as before, unless it is a mandatory accumulator at 0.
pub as_before : (code : ℕ) (presence : Presence) (raw : ℕ) → (presence ≡ mandatory → CountsZero code raw → ⊥)
    → classified code presence raw ≡ classified_before code raw
as_before code optional raw n = (optional_as_before code raw []).class
as_before code mandatory raw n = (presence_decides code raw).elsewhere (n refl) ∙ (optional_as_before code raw []).class
