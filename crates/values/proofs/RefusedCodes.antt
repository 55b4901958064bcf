-- Refusal 40, at place 0, is for the codes outside 1–18, 21 and 22, and no other code is refused.
use mathlib.Core.Path.{◌≡◌, refl, subst, ◌∙◌}
use mathlib.Core.Logic.{inl, inr}
use mathlib.Core.Bool.{true, ◌||◌}
use mathlib.Core.List.{List}
use mathlib.Core.Option.{Option, none, some}
use Prim.Native.Nat.{ℕ, ◌≤◌, ◌<◌}
use native.Mathlib.Omega.{arith}
use native.Mathlib.Decide.{dec_le}
use borrow.Author.Tests.{le-leb, lt-leb, leb-true, leb-false}
use lib.Dec.{leb}
use Rattle.lists.proofs.TestOutcomes.{impossible}
use Rattle.point_types.specs.Presence.{Presence}
use Rattle.point_types.specs.Rows.{TypeRow, row_of}
use Rattle.point_types.proofs.Table.{row_at, no_row_outside, four_registers}
use Rattle.values.specs.Decoding.{DecodedCode, refused, decoded}
use Rattle.values.proofs.ClassCases.{no_row_lem, too_long, decodes}
use Rattle.values.proofs.DecodedCases.{Cases, no_row, value_by_row, cases}

module _ (code : ℕ) (presence : Presence) (registers : List ℕ) where
  pub outside_refused : (DecodedCode code → ⊥) → decoded code presence registers ≡ refused 40 0
  outside_refused outside = go (dec_le 1 code) (dec_le code 22) (row_of code) refl
    where
      long : (r : TypeRow) → row_of code ≡ some r → code ≤ 22 → 1 ≤ code → 4 < r.most
      long r e h l =
          let low : code ≤ 18 → ⊥ = λ q. outside (inl (l, q)) in
          let k : 18 < code = omega arith in
          let a : code ≡ 21 → ⊥ = λ q. outside (inr (inl q)) in
          let b : code ≡ 22 → ⊥ = λ q. outside (inr (inr q)) in
          let m : code < 21 = omega arith in
          leb-false r.most 4 (four_registers code r e ∙ rw (lt-leb code 18 k, lt-leb 21 code m))

      go : Dec (1 ≤ code) → Dec (code ≤ 22) → (o : Option TypeRow) → row_of code ≡ o → decoded code presence registers ≡ refused 40 0
      go (yes l) (yes h) none e = no_row_lem code presence registers e
      go (yes l) (yes h) (some r) e = too_long code presence registers r e (long r e h l)
      go (yes l) (no h) o e = no_row_lem code presence registers (no_row_outside code (λ x y. h y))
      go (no l) d o e = no_row_lem code presence registers (no_row_outside code (λ x y. l x))

  pub inside_accepted : DecodedCode code → (n place : ℕ) → decoded code presence registers ≡ refused n place → ⊥
  inside_accepted inside n place e = go n place (subst (Cases code presence registers) e (cases code presence registers))
    where
      bounds : DecodedCode code → (1 ≤ code) × (code ≤ 22) × ((leb code 18 || leb 21 code) ≡ true)
      bounds (inl h) = (h.0, omega (arith, h.1), rw (le-leb code 18 h.1))
      bounds (inr (inl h)) = (omega (arith, h), omega (arith, h), rw h)
      bounds (inr (inr h)) = (omega (arith, h), omega (arith, h), rw h)

      go : (m p : ℕ) → Cases code presence registers (refused m p) → ⊥
      go m p (no_row q) =
          let b = bounds inside in
          let r = row_at code b.0 b.1 in
          let most = leb-true r.0.most 4 (four_registers code r.0 r.1 ∙ b.2) in
          let d = decodes code r.0 r.1 most in
          impossible (cc)
      go m p (value_by_row row is r) = elim r [ ]
