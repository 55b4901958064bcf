-- A pattern of a type that `decode` takes is decoded from its own registers, with zeros after them.
use mathlib.Core.Path.{◌≡◌, sym, ap, subst, ◌∙◌}
use mathlib.Core.List.{List, ◌++◌}
use mathlib.Core.Option.{some}
use Prim.Native.Nat.{ℕ, zero, suc, ◌-◌, ◌^◌, ◌<◌}
use native.Mathlib.Omega.{arith}
use borrow.Author.Tests.{lt-leb}
use lib.ListN.{length-append, replicate, length-replicate}
use lib.Seq.{take_at}
use Rattle.lists.proofs.EachLaws.{each_append}
use Rattle.registers.specs.Registers.{AreRegisters, join, split, too_wide}
use Rattle.registers.proofs.Splitting.{split_length, split_registers, join_split}
use Rattle.point_types.specs.Presence.{Presence}
use Rattle.point_types.specs.Rows.{TypeRow}
use Rattle.values.specs.Classes.{Class, width, class_of}
use Rattle.values.specs.Decoding.{Decoded, pattern_in, number_of, value_by, value_of, decodable, decoded}
use Rattle.values.specs.Printed.{DecodedFrom}
use Rattle.values.proofs.ClassCases.{decodable_most, by_row}

zeros : (n : ℕ) → AreRegisters (replicate n 0)
zeros zero = tt
zeros (suc n) = (omega arith, zeros n)

module _ (code : ℕ) (presence : Presence) (row : TypeRow) (is : decodable code ≡ some row) (raw : ℕ) (fits : raw < 2 ^ width row) where
  abbrev first : List ℕ
  first = split row.most raw

  abbrev rest : List ℕ
  rest = replicate (4 - row.most) 0

  result : class_of row presence raw ≡ Class.value → number_of row raw ≡ decoded code presence (first ++ rest)
  unfolding value_of too_wide
  result v =
      let read : pattern_in row (first ++ rest) ≡ raw =
      ap join (take_at first rest row.most (split_length row.most raw)) ∙ join_split row.most raw (lt-leb _ _ fits) in
      let number : value_of row presence raw ≡ number_of row raw = simp (value_of, value_by, v) in
      sym (by_row code presence (first ++ rest) row is ∙ ap (value_of row presence) read ∙ number)

  -- If `Is` holds of the number of a pattern that is a value, some registers are decoded to a result with `Is`.
  pub from_pattern : (Is : Decoded → Type 0) → class_of row presence raw ≡ Class.value → Is (number_of row raw) → DecodedFrom code presence Is
  from_pattern Is v h =
      let most = decodable_most code row is in
      record {
        registers = first ++ rest;
        four =
            length-append first rest ∙ omega (arith, split_length row.most raw, length-replicate {A = ℕ} (4 - row.most) 0, most);
        all = each_append (λ (x : ℕ). x < 65536) first rest (split_registers row.most raw) (zeros (4 - row.most));
        is = subst Is (result v) h;
      }
