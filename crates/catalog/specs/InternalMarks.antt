-- Internal: what the code records of the frames so far; no public contract cites this file. It records the numbers used, the
-- scale factors in scope, and the first group of the model whose count point is not in the top group, so that it need not search
-- the frames again. A search would find the same (`proofs/MarkedFrames.antt`).
use Rattle.std.specs.Prelude.{◌≡◌, Bool, true, false, not, ◌&&◌, List, ℕ, ◌+◌, ◌-◌, ◌/◌, ◌≤◌, ◌<◌, eqb, length, get_or}
use Rattle.std.specs.Prelude.{Option, find, take_while}
use Rattle.std.specs.List.{range_with_len}
use Rattle.lists.specs.Members.{among}
use Rattle.number_sets.specs.NumberSets.{in_set, Marks, Blank}
use Rattle.catalog_frames.specs.Frames.{word, count_by_point}
use Rattle.catalog.specs.Rules.{run, has_point}
use Rattle.catalog.specs.InternalScans.{frames_onward, has_number, is_model, is_target, numbers_in, runs_of}
use Rattle.catalog.specs.InternalTracking.{Within, code_start, numbers_so_far, state_of}
use Rattle.catalog.specs.declared.scans.Target.{Target}
use Rattle.catalog.specs.declared.state.State.{State}
use Rattle.catalog.specs.declared.tracking.Tracking.{Tracking}

-- Is a point of the kind x with the number n in the run of points that begins at frame `from`?
abbrev pub in_run : List ℕ → ℕ → Target → ℕ → Bool
in_run ws from x n = has_point (is_target x n) (run (frames_onward ws from))

-- The set has the same numbers before and after.
abbrev pub unchanged : List ℕ → List ℕ → Type 0
unchanged before after = Marks before after (λ n. false) true

-- ---- Counts

-- Is frame j a group frame that names a count point that is not in the set `counts`?
abbrev pub is_uncounted : List ℕ → List ℕ → ℕ → Bool
is_uncounted ws counts j =
    eqb (word ws j 0) 2 && eqb (word ws j 3) count_by_point && not (in_set counts (word ws j 4))

-- The first of the n frames from frame j on where `is_uncounted` holds, if no model frame is before it.
unfoldable pub uncounted_from : List ℕ → List ℕ → ℕ → ℕ → Option ℕ
uncounted_from ws counts j n =
    find (λ k. is_uncounted ws counts k) (take_while (λ k. not (is_model ws k)) (range_with_len j n))

-- `uncounted` is the first uncounted group frame from frame i on, before any model frame, with the count points of the run that
-- begins at `first`.
pub record Counted (ws : List ℕ) (uncounted : Option ℕ) (first i : ℕ) : Type 0 where
  pub counts : List ℕ
  pub holds : (n : ℕ) → n < 65536 → in_set counts n ≡ in_run ws first Target.CountPoint n
  pub is : uncounted ≡ uncounted_from ws counts i (length ws / 8 - i)

-- ---- After frame i

-- The first uncounted group after frame i (u before it): a model frame starts a new search, any other frame keeps u.
abbrev pub CountsAfter : Bool → List ℕ → ℕ → Option ℕ → Option ℕ → Type 0
CountsAfter true ws i u u' = Counted ws u' (i + 1) (i + 1)
CountsAfter false ws i u u' = u' ≡ u

-- If frame i is a model frame, its id is added, and the numbers of the frames from `first` up to i are removed.
pub record AfterModelFrame (ws : List ℕ) (i first : ℕ) (u u' : Option ℕ) (ids ids' numbers numbers' scales scales' : List ℕ) : Type 0 where
  pub used : Marks ids ids' (λ n. is_model ws i && eqb n (word ws i 1)) true
  pub freed : Marks numbers numbers' (λ n. is_model ws i && among n (numbers_in ws first (i - first))) false
  pub kept : unchanged scales scales'
  pub counts : CountsAfter (is_model ws i) ws i u u'

-- A model or group frame adds the scale factors of the run after it. An end frame removes those of the group that ends, whose
-- first frame is `inner`. A point frame changes nothing.
abbrev pub ScalesAfter : List ℕ → ℕ → ℕ → List ℕ → List ℕ → Type 0
ScalesAfter ws i inner before after =
    let from : ℕ = elim (eqb (word ws i 0) 4) [ true ↦ inner | false ↦ i + 1 ] in
    Marks before after (λ n. not (eqb (word ws i 0) 3) && in_run ws from Target.ScaleFactor n) (not (eqb (word ws i 0) 4))

-- At a model frame no scale factor is in scope.
abbrev pub BlankAtModel : List ℕ → ℕ → List ℕ → Type 0
BlankAtModel ws i scales = is_model ws i ≡ true → Blank scales

-- ---- Before frame i

-- The sets and the first uncounted group are what a search of the frames would find.
pub record Indexed (ws numbers scales : List ℕ) (uncounted : Option ℕ) (i : ℕ) (c : State) : Type 0 where
  pub number_words : length numbers ≡ 1024
  pub scale_words : length scales ≡ 1024
  pub used : (n : ℕ) → n < 65536 → in_set numbers n ≡ among n (numbers_so_far ws i c)
  pub in_scope : (n : ℕ) → n < 65536
      → in_set scales n ≡ has_point (is_target Target.ScaleFactor n) (runs_of ws c.firsts c.depth)
  pub counted : 1 ≤ c.depth → Counted ws uncounted (get_or c.firsts 0 0) i

-- ---- All that is recorded

-- Before frame i: the bounds of the state, and what a search of the frames would find.
pub record Recorded (ws : List ℕ) (i : ℕ) (t : Tracking) : Type 0 where
  pub within : Within i t.state
  pub indexed : Indexed ws t.numbers t.scales t.uncounted i t.state

-- Before the first frame.
pub record NoneTaken (t : Tracking) : Type 0 where
  pub state : t.state ≡ code_start
  pub ids : Blank t.ids
  pub numbers : Blank t.numbers
  pub scales : Blank t.scales

-- After frame i, which breaks no rule. A model frame first begins its model: then `numbers` and `scales` are in the sets.
pub record Taken (ws : List ℕ) (i : ℕ) (t t' : Tracking) : Type 0 where
  pub numbers : List ℕ
  pub scales : List ℕ
  pub begun : AfterModelFrame ws i (get_or t.state.firsts (t.state.depth - 1) 0) t.uncounted t'.uncounted t.ids t'.ids t.numbers numbers t.scales scales
  pub used : Marks numbers t'.numbers (λ n. has_number ws n i) true
  pub in_scope : ScalesAfter ws i (get_or t.state.firsts (t.state.depth - 1) 0) scales t'.scales
  pub state : t'.state ≡ state_of (word ws i 0) (word ws i 3) i t.state
