-- What the result of `parse` says of an input: its refusal, or how many frames and registers it has.
use mathlib.Core.Path.{◌≡◌, refl, ap}
use mathlib.Core.List.{List}
use Prim.Native.Nat.{ℕ, ◌*◌, ◌/◌}
use native.Mathlib.Omega.{arith}
use lib.ListN.{length}
use Rattle.lists.proofs.TestOutcomes.{impossible}
use Rattle.input.specs.Lines.{lines}
use Rattle.input.specs.Parsing.{Input, refused, words, parsed}
use Rattle.input.specs.CodeTypes.{parsed_result, refused_result, result}
use Rattle.input.specs.Outcomes.{Outcome}
use Rattle.input.proofs.Refusals.{outcome}

pub result_refused : (x : Input) (number place : ℕ) → refused_result number place ≡ result x → x ≡ refused number place
result_refused (refused n p) number place e = cc
result_refused (words c m) number place e = impossible (cc)

-- The catalog and the map of an input with `frames` frames and `registers` registers.
pub record Words (x : Input) (frames registers : ℕ) : Type 0 where
  pub catalog : List ℕ
  pub map : List ℕ
  pub is : x ≡ words catalog map
  pub frame_count : frames ≡ length catalog / 8
  pub register_count : registers ≡ length map

pub result_words : (x : Input) (frames registers : ℕ) → parsed_result frames registers ≡ result x → Words x frames registers
result_words (refused n p) frames registers e = impossible (cc)
result_words (words c m) frames registers e =
    record { catalog = c; map = m; is = refl; frame_count = cc; register_count = cc }

-- A catalog has whole frames only.
pub whole_frames : (text : List ℕ) (frames registers : ℕ) (c m : List ℕ) → parsed text frames registers ≡ words c m
    → length c / 8 * 8 ≡ length c
whole_frames text frames registers c m e = go (parsed text frames registers) (outcome text frames registers) e
  where
    go : (x : Input) → Outcome (length (lines text)) frames registers x → x ≡ words c m → length c / 8 * 8 ≡ length c
    go x (Outcome.bad_line place h k) q = impossible (cc)
    go x (Outcome.no_empty_line place h) q = impossible (cc)
    go x (Outcome.too_many place h k) q = impossible (cc)
    go x (Outcome.given d n k h i j) q = let s : d ≡ c = cc in omega (arith, h, ap length s)
