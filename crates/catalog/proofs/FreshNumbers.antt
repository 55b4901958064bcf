-- No two open groups have a scale factor with the same number, since each number is new in its model.
use mathlib.Core.Path.{◌≡◌, refl, sym, ap, ◌∙◌}
use mathlib.Core.Bool.{Bool, true, false, ◌||◌}
use mathlib.Core.List.{List, [], ◌∷◌, ◌++◌}
use mathlib.Core.Option.{none}
use Prim.Native.Nat.{ℕ}
use borrow.Author.Tests.{eqb-true, eq-eqb}
use lib.Dec.{eqb}
use Rattle.lists.specs.Members.{among}
use Rattle.lists.proofs.TestOutcomes.{clash, both}
use Rattle.lists.proofs.TestLaws.{none_broken, neither}
use Rattle.catalog_frames.specs.Frames.{Point, Frame, model_frame, group_frame, point_frame, end_frame, malformed}
use Rattle.catalog.specs.State.{OpenGroup, State, start, next, with_point}
use Rattle.catalog.specs.Rules.{has_scale_factor, is_scale_factor_point, points_of, rules, fault}
use Rattle.catalog.proofs.WordScans.{has_either}

-- No scale factor of a group has the same number as a scale factor of the groups around it.
abbrev pub Apart : List OpenGroup → Type 0
Apart [] = Unit {0}
Apart (l ∷ ls) = ((n : ℕ) → has_scale_factor n l.points ≡ true → has_scale_factor n (points_of ls) ≡ false) × Apart ls

-- The same, and the numbers of all these scale factors are in use.
pub record Fresh (s : State) : Type 0 where
  pub in_use : (n : ℕ) → has_scale_factor n (points_of s.open_groups) ≡ true → among n s.numbers ≡ true
  pub apart : Apart s.open_groups

pub fresh_start : Fresh start
fresh_start = record { in_use = λ n e. clash (sym e); apart = tt }

-- `a || b` holds if `b` does, and only if `a` or `b` does.
right_of : (a b : Bool) → b ≡ true → a || b ≡ true
right_of true b e = refl
right_of false b e = e

either_of : (a b : Bool) → a || b ≡ true → (X : Type 0) → (a ≡ true → X) → (b ≡ true → X) → X
either_of true b e X f g = f refl
either_of false b e X f g = g e

-- If `a` implies `b` and `b` is false, `a` is false.
unless : (a b : Bool) → (a ≡ true → b ≡ true) → b ≡ false → a ≡ false
unless true b f e = clash (sym (f refl) ∙ e)
unless false b f e = refl

module _ (numbers : List ℕ) (p : Point) (l : OpenGroup) (ls : List OpenGroup)
    (use_of : (n : ℕ) → has_scale_factor n (points_of (l ∷ ls)) ≡ true → among n numbers ≡ true)
    (new : among p.number numbers ≡ false) where
  -- A scale factor of the group with the new point is one that it had before, or the new point.
  had_or_new : (n : ℕ) → has_scale_factor n (l.points ++ (p ∷ [])) ≡ true → (X : Type 0)
      → (has_scale_factor n l.points ≡ true → X) → (p.number ≡ n → X) → X
  had_or_new n e X f g =
      let such = is_scale_factor_point n in
      either_of (has_scale_factor n l.points) (has_scale_factor n (p ∷ [])) (sym (has_either such l.points (p ∷ [])) ∙ e) X f
      (λ q. either_of (such p) false q X (λ r. g (eqb-true p.number n (both _ _ r).0)) (λ z. clash (sym z)))

  point_apart : Apart (l ∷ ls) → Apart (with_point p (l ∷ ls))
  point_apart a = (
    λ n e. had_or_new n e (has_scale_factor n (points_of ls) ≡ false) (λ q. a.0 n q) (λ q.
        let around : has_scale_factor n (points_of ls) ≡ true → among n numbers ≡ true = λ r.
        use_of n (has_either (is_scale_factor_point n) l.points (points_of ls)
        ∙ right_of (has_scale_factor n l.points) (has_scale_factor n (points_of ls)) r) in
        unless (has_scale_factor n (points_of ls)) (among n numbers) around (rw (← q) new)),
    a.1,
  )

  point_in_use : (n : ℕ) → has_scale_factor n (points_of (with_point p (l ∷ ls))) ≡ true → among n (p.number ∷ numbers) ≡ true
  point_in_use n e =
      let such = is_scale_factor_point n in
      let X : Type 0 = among n (p.number ∷ numbers) ≡ true in
      let kept : has_scale_factor n (points_of (l ∷ ls)) ≡ true → X = λ r.
      right_of (eqb n p.number) (among n numbers) (use_of n r) in
      let split = has_either such l.points (points_of ls) in
      either_of (has_scale_factor n (l.points ++ (p ∷ []))) (has_scale_factor n (points_of ls))
      (sym (has_either such (l.points ++ (p ∷ [])) (points_of ls)) ∙ e) X
      (λ q. had_or_new n q X
      (λ r. kept (split ∙ ap (λ b. b || has_scale_factor n (points_of ls)) r))
      (λ r. rw (eq-eqb n p.number (sym r))))
      (λ q. kept (split ∙ right_of (has_scale_factor n l.points) (has_scale_factor n (points_of ls)) q))

-- It still holds after a frame that breaks no rule.
pub fresh_next : (s : State) (f : Frame) (upcoming_run : List Point) → fault s f upcoming_run ≡ none → Fresh s → Fresh (next s f)
fresh_next s (model_frame id) upcoming_run e x = record { in_use = λ n e. clash (sym e); apart = (λ n e. refl, tt) }
fresh_next s (group_frame h) upcoming_run e x = go s.open_groups x.in_use x.apart
  where
    go : (ls : List OpenGroup) → ((n : ℕ) → has_scale_factor n (points_of ls) ≡ true → among n s.numbers ≡ true) → Apart ls
        → Fresh (next (record { ids = s.ids; numbers = s.numbers; has_fill = s.has_fill; open_groups = ls }) (group_frame h))
    go [] u a = record { in_use = λ n e. clash (sym e); apart = tt }
    go (l ∷ ls) u a =
        record { in_use = λ n e. right_of (eqb n h.number) (among n s.numbers) (u n e); apart = (λ n e. clash (sym e), a) }
fresh_next s (point_frame p) upcoming_run e x = go s.open_groups x.in_use x.apart
  where
    new : among p.number s.numbers ≡ false
    new =
        let numbered = ((none_broken (rules s (point_frame p) upcoming_run)).0 e).1.1.1.0 in
        ((neither (eqb p.number 0) (among p.number s.numbers)).0 numbered).1

    go : (ls : List OpenGroup) → ((n : ℕ) → has_scale_factor n (points_of ls) ≡ true → among n s.numbers ≡ true) → Apart ls
        → Fresh (next (record { ids = s.ids; numbers = s.numbers; has_fill = s.has_fill; open_groups = ls }) (point_frame p))
    go [] u a = record { in_use = λ n e. clash (sym e); apart = tt }
    go (l ∷ ls) u a =
        record { in_use = point_in_use s.numbers p l ls u new; apart = point_apart s.numbers p l ls u new a }
fresh_next s end_frame upcoming_run e x = go s.open_groups x.in_use x.apart
  where
    go : (ls : List OpenGroup) → ((n : ℕ) → has_scale_factor n (points_of ls) ≡ true → among n s.numbers ≡ true) → Apart ls
        → Fresh (next (record { ids = s.ids; numbers = s.numbers; has_fill = s.has_fill; open_groups = ls }) end_frame)
    go [] u a = record { in_use = λ n e. clash (sym e); apart = tt }
    go (l ∷ ls) u a =
        record {
          in_use = λ n e. u n (has_either (is_scale_factor_point n) l.points (points_of ls)
              ∙ right_of (has_scale_factor n l.points) (has_scale_factor n (points_of ls)) e);
          apart = a.1;
        }
fresh_next s malformed upcoming_run e x = x
