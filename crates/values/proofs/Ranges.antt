-- The code's tests of a range are those of the definition, for each row of the table.
use mathlib.Core.Path.{◌≡◌, refl, sym, ap, ◌∙◌}
use mathlib.Core.Bool.{Bool, true, false, not, ◌&&◌}
use Prim.Native.Nat.{ℕ, ◌<◌, ◌^◌, ◌*◌}
use native.Mathlib.Omega.{arith}
use Rattle.std.proofs.lemmas.Bool.Decides.{nat_tests}
use lib.Dec.{leb, eqb, leb-zero}
use lib.IntN.{ℤ, pos, neg_ℤ}
use Rattle.lists.proofs.TestOutcomes.{clash}
use Rattle.point_types.specs.Rows.{TypeRow, Kind, signed, unsigned, accumulator, float, whole, between, not_nan}
use Rattle.point_types.proofs.Table.{counts_from_zero, signed_range}
use Rattle.values.specs.Classes.{width, twos_complement, integer, is_between, is_scale_factor, holds_nan, in_range, PatternOf}

-- Is it a kind that is read as unsigned? That of an accumulator is.
abbrev pub is_unsigned : Kind → Bool
is_unsigned signed = false
is_unsigned unsigned = true
is_unsigned accumulator = true
is_unsigned (float f) = false

module _ (row : TypeRow) (raw : ℕ) where
  pub in_whole : row.range ≡ whole → in_range row raw ≡ true
  unfolding in_range
  in_whole e = rw e

  pub in_between : (low high : ℤ) → row.range ≡ between low high → in_range row raw ≡ is_between low high (integer row raw)
  unfolding in_range
  in_between low high e = rw e

  pub in_not_nan : row.range ≡ not_nan → in_range row raw ≡ not (holds_nan row.kind raw)
  unfolding in_range
  in_not_nan e = rw e

  pub signed_integer : row.kind ≡ signed → integer row raw ≡ twos_complement (16 * row.most) raw
  unfolding integer
  signed_integer e = rw e

  pub plain_integer : (row.kind ≡ signed → ⊥) → integer row raw ≡ pos raw
  unfolding integer
  plain_integer n = go row.kind refl
    where
      go : (k : Kind) → row.kind ≡ k
          → ◌≡◌ {A = ℤ} (elim k [ signed ↦ twos_complement (width row) raw | unsigned ↦ pos raw | accumulator ↦ pos raw | float f ↦ pos raw ]) (pos raw)
      go signed e = absurd (n e)
      go unsigned e = refl
      go accumulator e = refl
      go (float f) e = refl

  pub unsigned_integer : is_unsigned row.kind ≡ true → integer row raw ≡ pos raw
  unsigned_integer u = plain_integer (λ k. clash (sym u ∙ ap is_unsigned k))

  module _ (p : PatternOf row raw) where
    pub in_up_to : (n : ℕ) → row.range ≡ between (pos 0) (pos n) → in_range row raw ≡ leb raw n
    in_up_to n e =
        in_between (pos 0) (pos n) e
        ∙ rw (plain_integer (counts_from_zero row p.listed 0 (pos n) e)) (simp (leb-zero raw))

    pub in_only : (n : ℕ) → row.range ≡ between (pos n) (pos n) → in_range row raw ≡ eqb raw n
    in_only n e =
        in_between (pos n) (pos n) e
        ∙ rw (plain_integer (counts_from_zero row p.listed n (pos n) e)) (both)
      where
        both : (leb n raw && leb raw n) ≡ eqb raw n
        both = grind (arith, nat_tests)

    module _ (e : row.range ≡ between (neg_ℤ (pos 10)) (pos 10)) where
      pub one_register : raw < 65536
      one_register =
          let m : row.most ≡ 1 = (signed_range row p.listed 9 (pos 10) e).1 in
          rw (ap (λ (k : ℕ). 2 ^ (16 * k)) m) at p.fits

      pub in_scale_factor : in_range row raw ≡ is_scale_factor (twos_complement 16 raw)
      in_scale_factor =
          let s = signed_range row p.listed 9 (pos 10) e in
          in_between (neg_ℤ (pos 10)) (pos 10) e ∙ rw (signed_integer s.0, s.1)
