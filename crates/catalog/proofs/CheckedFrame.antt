-- One frame of the code's loop: checking the remaining frames from the current state gives the result for the whole catalog.
use mathlib.Core.Path.{◌≡◌, refl, sym, ap, ◌∙◌}
use mathlib.Core.Bool.{Bool, true, false}
use mathlib.Core.List.{List, ◌∷◌}
use mathlib.Core.Option.{Option, none, some}
use Prim.Native.Nat.{ℕ, ◌+◌, ◌/◌, ◌≤◌, ◌<◌}
use native.Mathlib.Omega.{arith}
use borrow.Author.Tests.{eq-eqb, ne_eqb}
use lib.Dec.{eqb}
use lib.ListN.{length}
use Rattle.std.specs.Prelude.{Result, Ok, Err}
use Rattle.std.specs.Result.{is_ok, MatchResult, IsErrAnd}
use Rattle.std.proofs.lemmas.Result.{err_from_is_err_and}
use Rattle.lists.specs.Tests.{first_broken}
use Rattle.lists.proofs.TestLaws.{none_broken}
use Rattle.refusals.specs.declared.Refusal.{Refusal}
use Rattle.refusals.specs.declared.Refused.{Refused}
use Rattle.catalog_frames.specs.Frames.{frame_at, word}
use Rattle.frame_rules.specs.CodeTypes.{to_spec_fault}
use Rattle.catalog.specs.State as check
use Rattle.catalog.specs.State.{start}
use Rattle.catalog.specs.Rules.{run, no_model, rules, fault}
use Rattle.catalog.specs.Checking.{accepted, refused, check_from, frames_checked}
use Rattle.catalog.specs.InternalTracking.{IdFits}
use Rattle.catalog.specs.InternalScans.{frames_onward}
use Rattle.catalog.specs.InternalTracking.{Tracks, DepthAllows, code_rules}
use Rattle.catalog.specs.InternalMarks.{BlankAtModel, Indexed, NoneTaken, Taken}
use Rattle.catalog.specs.declared.state.State.{State}
use Rattle.catalog.specs.declared.tracking.Tracking.{Tracking}
use Rattle.catalog.proofs.WordScans.{frames_more, frames_none}
use Rattle.catalog.proofs.CheckSteps as steps
use Rattle.catalog.proofs.CheckSteps.{from_first}
use Rattle.catalog.proofs.FreshNumbers.{Fresh, fresh_start, fresh_next}
use Rattle.catalog.proofs.MarkedFrames as marked
use Rattle.catalog.proofs.MarkedFrames.{indexed_start}
use Rattle.catalog.proofs.TrackedRules.{same_fault, none_open}
use Rattle.catalog.proofs.TrackedState.{tracks_start, tracks_next, depth_allows, state_here}

-- Before frame i, the code's state and set of ids agree with a state of the definition, and checking the remaining frames from
-- that state gives the result for the whole catalog.
pub record Decides (ws used : List ℕ) (i : ℕ) (c : State) : Type 0 where
  pub state : check.State
  pub tracks : Tracks ws used i c state
  pub rest : check_from state i (frames_onward ws i) ≡ frames_checked ws

-- The same, with everything else that the code records of the frames so far.
pub record Holds (ws : List ℕ) (i : ℕ) (t : Tracking) : Type 0 where
  pub decides : Decides ws t.ids i t.state
  pub fresh : Fresh decides.state
  pub indexed : Indexed ws t.numbers t.scales t.uncounted i t.state

-- If no error is returned, no rule is broken.
pub unbroken_value : (r : Result (Unit {0}) Refusal) (q : Option ℕ) → is_ok r ≡ true → to_spec_fault r ≡ q → none ≡ q
unbroken_value (Ok done) q e b = b
unbroken_value (Err x) q e b = absurd (cc)

-- The error that `map_err` tells has the refusal, and the place that the closure puts to it.
pub told_at : (r : Result (Unit {0}) Refusal) (m : Result (Unit {0}) Refused) (i : ℕ) (P : Refusal → Refused → Type 0)
    → ((e : Refusal) (z : Refused) → P e z → z ≡ record { refusal = e; place = i })
    → MatchResult r (λ x. m ≡ Ok x) (λ e. IsErrAnd m (P e)) → (d : Refused) → m ≡ Err d
    → (r ≡ Err d.refusal) × (d.place ≡ i)
told_at (Ok x) m i P f k d w = absurd (cc)
told_at (Err e) m i P f k d w =
    let p = err_from_is_err_and m k in
    let q = f e p.0 p.2 in
    let same : d ≡ record { refusal = e; place = i } = cc in
    (ap Err (ap (λ (z : Refused). z.refusal) (sym same)), ap (λ (z : Refused). z.place) same)

-- Before the first frame.
pub holds_start : (ws : List ℕ) (t : Tracking) → NoneTaken t → Holds ws 0 t
holds_start ws t n =
    record {
      decides = record { state = start; tracks = rw n.state (tracks_start ws t.ids n.ids); rest = from_first ws };
      fresh = fresh_start;
      indexed = rw n.state (indexed_start ws t.numbers t.scales t.uncounted n.numbers n.scales);
    }

module _ (ws : List ℕ) (i : ℕ) (t : Tracking) (d : Holds ws i t) (fits : IdFits (frame_at ws i)) (h : i < length ws / 8) where
  frames_here : frames_onward ws i ≡ frame_at ws i ∷ frames_onward ws (i + 1)
  frames_here = frames_more ws i h

  fault_here : first_broken (code_rules ws t.ids i t.state (frame_at ws i))
      ≡ fault d.decides.state (frame_at ws i) (run (frames_onward ws i))
  fault_here =
      same_fault ws t.ids i t.state d.decides.state d.decides.tracks (frame_at ws i) (frames_onward ws (i + 1)) fits frames_here
      ∙ ap (λ fs. fault d.decides.state (frame_at ws i) (run fs)) (sym frames_here)

  pub refused_here : (r : ℕ) → some r ≡ first_broken (code_rules ws t.ids i t.state (frame_at ws i))
      → refused r i ≡ frames_checked ws
  refused_here r n =
      let broken = sym (n ∙ fault_here) in
      let s = d.decides.state in
      sym (steps.is_refused s i (frame_at ws i) (frames_onward ws (i + 1)) (frames_onward ws i) frames_here r broken)
      ∙ d.decides.rest

  module _ (n : none ≡ first_broken (code_rules ws t.ids i t.state (frame_at ws i))) where
    unbroken : fault d.decides.state (frame_at ws i) (run (frames_onward ws i)) ≡ none
    unbroken = sym (n ∙ fault_here)

    pub depth_allows_here : DepthAllows (word ws i 0) t.state
    depth_allows_here =
        depth_allows ws t.ids i t.state d.decides.state d.decides.tracks (frame_at ws i) (run (frames_onward ws i)) refl unbroken

    pub blank_here : BlankAtModel ws i t.scales
    blank_here =
        let e = d.decides in
        marked.blank_here ws t.ids t.numbers t.scales t.uncounted i t.state e.state e.tracks d.indexed (frame_at ws i) refl (sym n)

    pub holds_next : (t' : Tracking) → Taken ws i t t' → Holds ws (i + 1) t'
    holds_next t' k =
        let c = t.state in
        let s = d.decides.state in
        let tracks = d.decides.tracks in
        let f = frame_at ws i in
        let formed = ((none_broken (rules s f (run (frames_onward ws i)))).0 unbroken).0 in
        let state = k.state ∙ state_here ws i c f refl formed in
        record {
          decides = record {
            state = check.next s f;
            tracks = rw state (tracks_next ws t.ids i c s tracks t'.ids k.begun.used f refl frames_here unbroken);
            rest =
                sym (steps.continues s i f (frames_onward ws (i + 1)) (frames_onward ws i) frames_here unbroken) ∙ d.decides.rest;
          };
          fresh = fresh_next s f (run (frames_onward ws i)) unbroken d.fresh;
          indexed = rw state (marked.indexed_next ws t.ids t.numbers t.scales t.uncounted i c s tracks d.indexed t'.ids k.numbers
              t'.numbers k.scales t'.scales t'.uncounted _ h refl k.begun k.used k.in_scope d.fresh f fits refl frames_here (sym n));
        }

-- After the last frame.
module _ (ws used : List ℕ) (i : ℕ) (c : State) (d : Decides ws used i c) (h : length ws / 8 ≤ i) where
  none_left : (b : Bool) → eqb c.depth 0 ≡ b → no_model d.state.open_groups ≡ b
  none_left b e = sym (none_open c.depth d.state.open_groups d.tracks.depth) ∙ e

  pub open_at_end : i ≤ length ws / 8 → (c.depth ≡ 0 → ⊥) → refused 11 (length ws / 8) ≡ frames_checked ws
  open_at_end g n =
      let same : length ws / 8 ≡ i = omega arith in
      let open_model = none_left false (ne_eqb c.depth 0 n) in
      ap (refused 11) same ∙ sym (steps.still_open d.state i (frames_onward ws i) (frames_none ws i h) open_model) ∙ d.rest

  pub closed_at_end : c.depth ≡ 0 → accepted c.models ≡ frames_checked ws
  closed_at_end n =
      let no_model_lem = none_left true (eq-eqb c.depth 0 n) in
      ap accepted d.tracks.models
      ∙ sym (steps.is_accepted_lem d.state i (frames_onward ws i) (frames_none ws i h) no_model_lem) ∙ d.rest
