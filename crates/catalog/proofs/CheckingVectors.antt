-- Document 01, "Checking", clause by clause, and the types of change request 1: a catalog for each clause and what checking returns,
-- computed together.
use mathlib.Core.Path.{◌≡◌, refl}
use mathlib.Core.List.{List, [], ◌∷◌, ◌++◌, map}
use Prim.Native.Nat.{ℕ}
use lib.ListN.{replicate}
use Rattle.point_types.specs.Rows.{rows, row_among, may_scale, registers_of}
use Rattle.values.specs.Classes.{twos_complement}
use Rattle.catalog_frames.specs.Frames.{frame_of, frames_from}
use Rattle.frame_rules.specs.FrameTests.{is_size_of}
use Rattle.catalog.specs.Checking.{Verdict, accepted, refused, check_from, checked}

-- A model frame.
abbrev model : ℕ → List ℕ
model id = 1 ∷ id ∷ 0 ∷ 0 ∷ 0 ∷ 0 ∷ 0 ∷ 0 ∷ []

-- A plain group: its number, count kind and word 4.
abbrev group_by : ℕ → ℕ → ℕ → List ℕ
group_by number count_kind count = 2 ∷ number ∷ 0 ∷ count_kind ∷ count ∷ 0 ∷ 0 ∷ 0 ∷ []

-- A point with no scale factor, optional, R.
abbrev point : ℕ → ℕ → ℕ → List ℕ
point number type_code size = 3 ∷ number ∷ type_code ∷ size ∷ 0 ∷ 0 ∷ 0 ∷ 0 ∷ []

-- An int16 point with a scale kind and word 5.
abbrev scaled : ℕ → ℕ → ℕ → List ℕ
scaled number scale_kind scale = 3 ∷ number ∷ 1 ∷ 1 ∷ scale_kind ∷ scale ∷ 0 ∷ 0 ∷ []

-- An end frame.
abbrev end : List ℕ
end = 4 ∷ 0 ∷ 0 ∷ 0 ∷ 0 ∷ 0 ∷ 0 ∷ 0 ∷ []

-- The frames of a catalog, and the expected result.
abbrev Case : Type 0
Case = List (List ℕ) × Verdict

-- The words of all these frames.
abbrev joined : List (List ℕ) → List ℕ
joined [] = []
joined (w ∷ ws) = w ++ joined ws

-- A case for each clause, and for each reading chosen where a clause can be read in two ways.
unfoldable pub cases : List Case
cases =
    ([], accepted 0)
    -- 1, 2
    ∷ ((1 ∷ []) ∷ [], refused 1 0)
    ∷ (replicate 32776 0 ∷ [], refused 2 0)  -- and not 3
    ∷ (replicate 32768 0 ∷ [], refused 3 0)  -- 4,096 frames are not too many
    -- 3
    ∷ ((5 ∷ 0 ∷ 0 ∷ 0 ∷ 0 ∷ 0 ∷ 0 ∷ 0 ∷ []) ∷ [], refused 3 0)  -- and not 4
    ∷ ((1 ∷ 1 ∷ 0 ∷ 0 ∷ 0 ∷ 0 ∷ 0 ∷ 1 ∷ []) ∷ [], refused 3 0)
    ∷ (model 1 ∷ (2 ∷ 1 ∷ 0 ∷ 0 ∷ 1 ∷ 1 ∷ 0 ∷ 0 ∷ []) ∷ [], refused 3 1)
    ∷ (model 1 ∷ (4 ∷ 1 ∷ 0 ∷ 0 ∷ 0 ∷ 0 ∷ 0 ∷ 0 ∷ []) ∷ [], refused 3 1)
    -- 4
    ∷ (end ∷ [], refused 4 0)
    ∷ (point 0 1 1 ∷ [], refused 4 0)  -- and not 6
    ∷ (group_by 1 0 1 ∷ [], refused 4 0)
    ∷ (model 1 ∷ point 1 1 1 ∷ model 1 ∷ [], refused 4 2)  -- and not 6
    ∷ (model 1 ∷ group_by 1 0 1 ∷ point 2 1 1 ∷ end ∷ point 3 1 1 ∷ [], refused 4 4)
    ∷ (model 1 ∷ group_by 1 2 0 ∷ point 2 1 1 ∷ end ∷ group_by 3 0 1 ∷ [], refused 4 4)
    ∷ (model 1 ∷ group_by 1 2 0 ∷ point 2 1 1 ∷ end ∷ group_by 3 2 0 ∷ [], refused 4 4)
    ∷ (model 1 ∷ group_by 1 2 0 ∷ point 2 1 1 ∷ group_by 3 0 1 ∷ point 4 1 1 ∷ end ∷ end ∷ end ∷ [], accepted 1)
    -- 5
    ∷ (model 1 ∷ group_by 1 0 1 ∷ group_by 2 0 1 ∷ group_by 3 0 1 ∷ group_by 0 0 1 ∷ [], refused 5 4)  -- and not 6
    -- 6
    ∷ (model 0 ∷ [], refused 6 0)
    ∷ (model 65535 ∷ [], refused 6 0)
    ∷ (model 1 ∷ point 1 1 1 ∷ end ∷ model 2 ∷ point 1 1 1 ∷ end ∷ model 1 ∷ [], refused 6 6)
    ∷ (model 1 ∷ point 1 1 1 ∷ end ∷ model 2 ∷ point 1 1 1 ∷ end ∷ [], accepted 2)  -- each model has its own numbers
    ∷ (model 1 ∷ point 0 1 1 ∷ [], refused 6 1)
    ∷ (model 1 ∷ group_by 0 0 1 ∷ [], refused 6 1)
    ∷ (model 1 ∷ point 1 1 1 ∷ group_by 1 0 1 ∷ [], refused 6 2)
    ∷ (model 1 ∷ group_by 1 0 1 ∷ point 2 1 1 ∷ group_by 2 0 1 ∷ [], refused 6 3)
    ∷ (model 1 ∷ point 1 1 1 ∷ point 1 23 4 ∷ [], refused 6 2)  -- and not 7
    -- 7
    ∷ (model 1 ∷ point 1 23 4 ∷ [], refused 7 1)  -- an unknown type
    ∷ (model 1 ∷ point 1 21 4 ∷ point 2 22 4 ∷ end ∷ [], accepted 1)
    ∷ (model 1 ∷ point 1 21 2 ∷ [], refused 7 1)
    ∷ (model 1 ∷ point 1 22 2 ∷ [], refused 7 1)
    ∷ (model 1 ∷ point 1 19 64 ∷ end ∷ [], accepted 1)
    ∷ (model 1 ∷ point 1 19 65 ∷ [], refused 7 1)
    ∷ (model 1 ∷ (2 ∷ 1 ∷ 2 ∷ 0 ∷ 0 ∷ 0 ∷ 0 ∷ 0 ∷ []) ∷ [], refused 7 1)  -- and not 9
    ∷ (model 1 ∷ (3 ∷ 1 ∷ 1 ∷ 1 ∷ 3 ∷ 0 ∷ 2 ∷ 0 ∷ []) ∷ [], refused 7 1)  -- and not 8
    ∷ (model 1 ∷ (3 ∷ 1 ∷ 1 ∷ 1 ∷ 0 ∷ 0 ∷ 0 ∷ 2 ∷ []) ∷ [], refused 7 1)
    -- 8
    ∷ (model 1 ∷ scaled 1 3 0 ∷ [], refused 8 1)
    ∷ (model 1 ∷ scaled 1 0 1 ∷ [], refused 8 1)  -- and not 3
    ∷ (model 1 ∷ (3 ∷ 1 ∷ 4 ∷ 1 ∷ 1 ∷ 0 ∷ 0 ∷ 0 ∷ []) ∷ [], refused 8 1)  -- an enum16 may not be scaled
    ∷ (model 1 ∷ (3 ∷ 1 ∷ 21 ∷ 4 ∷ 1 ∷ 0 ∷ 0 ∷ 0 ∷ []) ∷ [], refused 8 1)  -- nor a bitfield64
    ∷ (model 1 ∷ (3 ∷ 1 ∷ 22 ∷ 4 ∷ 1 ∷ 0 ∷ 0 ∷ 0 ∷ []) ∷ [], refused 8 1)  -- nor a float64
    ∷ (model 1 ∷ scaled 1 1 0xFFF6 ∷ scaled 2 1 10 ∷ end ∷ [], accepted 1)
    ∷ (model 1 ∷ scaled 1 1 0xFFF5 ∷ [], refused 8 1)
    ∷ (model 1 ∷ scaled 1 1 11 ∷ [], refused 8 1)
    ∷ (model 1 ∷ scaled 1 2 9 ∷ point 9 8 1 ∷ end ∷ [], accepted 1)  -- a scale factor later in the run
    ∷ (model 1 ∷ scaled 1 2 9 ∷ point 9 8 2 ∷ [], refused 7 2)  -- the scale factor's fault is at its own frame
    ∷ (model 1 ∷ scaled 1 2 9 ∷ point 9 1 1 ∷ [], refused 8 1)  -- not a sunssf point
    ∷ (model 1 ∷ point 9 8 1 ∷ group_by 2 0 1 ∷ scaled 1 2 9 ∷ end ∷ end ∷ [], accepted 1)  -- in an enclosing group
    ∷ (model 1 ∷ group_by 2 0 1 ∷ point 9 8 1 ∷ end ∷ group_by 3 0 1 ∷ scaled 1 2 9 ∷ [], refused 8 5)  -- in a sibling group
    ∷ (model 1 ∷ scaled 1 2 9 ∷ (5 ∷ 0 ∷ 0 ∷ 0 ∷ 0 ∷ 0 ∷ 0 ∷ 0 ∷ []) ∷ point 9 8 1 ∷ [], refused 8 1)  -- past the end of the run
    ∷ (model 1 ∷ (3 ∷ 1 ∷ 4 ∷ 1 ∷ 2 ∷ 9 ∷ 0 ∷ 0 ∷ []) ∷ point 9 8 1 ∷ [], refused 8 1)  -- an enum16 may not be scaled
    ∷ (model 1 ∷ group_by 2 0 1 ∷ scaled 1 2 9 ∷ end ∷ point 9 8 1 ∷ [], refused 8 2)  -- and not 4 at frame 4
    -- 9
    ∷ (model 1 ∷ group_by 1 3 1 ∷ [], refused 9 1)
    ∷ (model 1 ∷ group_by 1 0 0 ∷ [], refused 9 1)
    ∷ (model 1 ∷ point 1 2 1 ∷ group_by 2 1 1 ∷ point 3 1 1 ∷ end ∷ end ∷ [], accepted 1)
    ∷ (model 1 ∷ (3 ∷ 1 ∷ 2 ∷ 1 ∷ 1 ∷ 1 ∷ 1 ∷ 0 ∷ []) ∷ group_by 2 1 1 ∷ point 3 1 1 ∷ end ∷ end ∷ [], accepted 1)
    ∷ (model 1 ∷ point 1 4 1 ∷ group_by 2 1 1 ∷ [], refused 9 2)  -- not a uint16 point
    ∷ (model 1 ∷ (3 ∷ 1 ∷ 2 ∷ 1 ∷ 0 ∷ 0 ∷ 0 ∷ 1 ∷ []) ∷ group_by 2 1 1 ∷ [], refused 9 2)  -- not R
    ∷ (model 1 ∷ group_by 2 0 1 ∷ point 1 2 1 ∷ group_by 3 1 1 ∷ [], refused 9 3)  -- not in the top group
    ∷ (model 1 ∷ group_by 2 1 1 ∷ point 3 1 1 ∷ end ∷ point 1 2 1 ∷ [], refused 9 1)  -- and not 4 at frame 4
    ∷ (model 1 ∷ group_by 1 0 1 ∷ group_by 2 2 0 ∷ [], refused 9 2)
    ∷ (model 1 ∷ group_by 1 2 0 ∷ group_by 2 2 0 ∷ [], refused 9 2)
    ∷ (model 1 ∷ group_by 1 2 1 ∷ [], refused 9 1)  -- and not 3
    -- 10, 11
    ∷ (model 1 ∷ end ∷ [], refused 10 1)
    ∷ (model 1 ∷ group_by 1 0 1 ∷ end ∷ [], refused 10 2)
    ∷ (model 1 ∷ group_by 1 0 1 ∷ group_by 2 0 1 ∷ point 3 1 1 ∷ end ∷ end ∷ [], refused 10 5)
    ∷ (model 1 ∷ group_by 1 0 1 ∷ point 2 1 1 ∷ end ∷ end ∷ [], accepted 1)
    ∷ (model 1 ∷ [], refused 11 1)
    ∷ []

-- Checking returns the expected result in every case.
pub clause_by_clause : map (λ (c : Case). checked (joined c.0)) cases ≡ map (λ (c : Case). c.1) cases
unfolding cases check_from checked frames_from frame_of is_size_of rows row_among may_scale registers_of twos_complement
clause_by_clause = refl
