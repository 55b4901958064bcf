-- The runs of points of the open groups, which the code finds by the first frame inside each group.
use mathlib.Core.Path.{◌≡◌, refl, ap, ◌∙◌}
use mathlib.Core.Logic.{◌≢◌}
use mathlib.Core.Bool.{Bool, true}
use mathlib.Core.List.{List, [], ◌∷◌, ◌++◌, append-nil}
use Prim.Native.Nat.{ℕ, suc, ◌≤◌}
use native.Mathlib.Omega.{arith}
use lib.ListN.{length, get_or, set}
use lib.Seq.{get_or-set_other}
use Rattle.catalog_frames.specs.Frames.{Point}
use Rattle.catalog.specs.State.{OpenGroup}
use Rattle.catalog.specs.Rules.{run, points_of, points_in_scope, top_points}
use Rattle.catalog.specs.InternalScans.{frames_onward, runs_of}
use Rattle.catalog.specs.InternalTracking.{Opens}

module _ (ws firsts : List ℕ) where
  -- All runs together are the points so far of the groups.
  pub runs_points : (b : Bool) (ls : List OpenGroup) → Opens ws firsts b [] ls → runs_of ws firsts (length ls) ≡ points_of ls
  unfolding runs_of
  runs_points b [] o = refl
  runs_points b (l ∷ ls) o = rw (o.0, append-nil l.points, runs_points true ls o.2)

  -- With the upcoming points of the innermost group, they are the points that a scale reference may name.
  pub runs_in_scope : (b : Bool) (upcoming_run : List Point) (l : OpenGroup) (ls : List OpenGroup) → Opens ws firsts b upcoming_run (l ∷ ls)
      → runs_of ws firsts (suc (length ls)) ≡ points_in_scope (l ∷ ls) upcoming_run
  unfolding runs_of
  runs_in_scope b upcoming_run l ls o =
      ap (λ ps. ps ++ runs_of ws firsts (length ls)) o.0 ∙ ap (λ ps. (l.points ++ upcoming_run) ++ ps) (runs_points true ls o.2)

  -- The outermost run is the points of the top group.
  pub run_of_top : (b : Bool) (l : OpenGroup) (ls : List OpenGroup) → Opens ws firsts b [] (l ∷ ls)
      → run (frames_onward ws (get_or firsts 0 0)) ≡ top_points (l ∷ ls)
  run_of_top b l [] o = o.0 ∙ append-nil l.points
  run_of_top b l (k ∷ ls) o = run_of_top true k ls o.2

  -- Storing the first frame of a deeper group changes nothing for the groups around it.
  pub one_deeper : (b : Bool) (upcoming_run : List Point) (ls : List OpenGroup) (d v : ℕ) → length ls ≤ d → Opens ws firsts b upcoming_run ls
      → Opens ws (set firsts d v) b upcoming_run ls
  one_deeper b upcoming_run [] d v h o = tt
  one_deeper b upcoming_run (l ∷ ls) d v h o =
      let n : length ls ≢ d = λ e. omega (arith, e, h) in
      (rw (get_or-set_other firsts d (length ls) v 0 n) o.0, o.1, one_deeper true [] ls d v (omega arith) o.2)
