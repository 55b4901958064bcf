-- Internal: what the code's scans over the frames find, by the words that they read; no public contract cites this file.
use Rattle.std.specs.Prelude.{Bool, true, false, ◌&&◌, List, [], ◌∷◌, ◌++◌, ℕ, zero, suc, ◌+◌, ◌-◌, ◌/◌, eqb, leb, length, get_or}
use Rattle.catalog_frames.specs.Frames.{Point, Frame, word, frames_from, uint16, sunssf, read_only}
use Rattle.catalog.specs.Rules.{run, is_scale_factor_point, is_count_point}
use Rattle.catalog.specs.declared.scans.Target.{Target}

-- All frames from frame i on.
abbrev pub frames_onward : List ℕ → ℕ → List Frame
frames_onward ws i = frames_from ws i (length ws / 8 - i)

-- Is frame j a model frame?
abbrev pub is_model : List ℕ → ℕ → Bool
is_model ws j = eqb (word ws j 0) 1

-- Is frame j a group or point frame (kind 2 or 3)?
abbrev pub is_numbered : List ℕ → ℕ → Bool
is_numbered ws j = leb 2 (word ws j 0) && leb (word ws j 0) 3

-- Is frame j a group or point frame with this number?
abbrev pub has_number : List ℕ → ℕ → ℕ → Bool
has_number ws number j = is_numbered ws j && eqb number (word ws j 1)

-- The numbers of the groups and points in the n frames from frame `first` on, the last one first.
unfoldable pub numbers_in : List ℕ → ℕ → ℕ → List ℕ
numbers_in ws first zero = []
numbers_in ws first (suc n) =
    elim (is_numbered ws (first + n)) [
      | true ↦ word ws (first + n) 1 ∷ numbers_in ws first n
      | false ↦ numbers_in ws first n
    ]

-- Is `p` of the kind of point that the reference names?
abbrev pub is_of_kind : Target → Point → Bool
is_of_kind Target.ScaleFactor p = eqb p.type_code sunssf
is_of_kind Target.CountPoint p = eqb p.type_code uint16 && eqb p.access read_only

-- Is `p` a point of this kind with the number n?
abbrev pub is_target : Target → ℕ → Point → Bool
is_target Target.ScaleFactor n p = is_scale_factor_point n p
is_target Target.CountPoint n p = is_count_point n p

-- The runs of points that begin at the first k frames of the list `firsts`, the last run first.
unfoldable pub runs_of : List ℕ → List ℕ → ℕ → List Point
runs_of ws firsts zero = []
runs_of ws firsts (suc k) = run (frames_onward ws (get_or firsts k 0)) ++ runs_of ws firsts k
