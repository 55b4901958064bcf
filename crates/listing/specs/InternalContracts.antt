-- Internal: contracts between private functions of this crate; no public contract cites this file.
use Rattle.std.specs.Prelude.{◌≡◌, Option, Some, None, Result, Ok, Err, true, false, ◌&&◌, ◌||◌, List, map, ℕ, ◌+◌, ◌*◌, ◌≤◌, min, eqb, length}
use Rattle.std.proofs.Math.Option as Math
use Rattle.std.proofs.Math.Option.{none, some}
use Rattle.std.proofs.lemmas.List.Edits.{sets}
use Rattle.lists.specs.Each.{Each}
use Rattle.refusals.specs.declared.Refusal.{Refusal}
use Rattle.registers.specs.Registers.{shown_raw}
use Rattle.catalog_frames.specs.Frames as Frames
use Rattle.frame_rules.specs.FrameTests.{is_size_of}
use Rattle.model_definitions.specs.Definitions.{Groups, Content, points_size}
use Rattle.layout.specs.Points.{ModelPoint, Scope, registers_at}
use Rattle.layout.specs.Layout.{count_of, groups_size, fill_size, count_unimplemented}
use Rattle.layout.specs.Counts.{groups_points, fill_points, or0}
use Rattle.definition_frames.specs.CodeTypes as DefinitionFrames
use Rattle.group_instances.specs.Fills.{filled}
use Rattle.layout.specs.Locating.{Located, or_else, located_own, located_in}
use Rattle.layout.specs.PointTables.{present_within, scope_in}
use Rattle.layout.specs.InternalWalks.{content_from, ParsesAt, past_end, Ready, AtGroups}
use Rattle.listing.specs.Listing as Listing
use Rattle.listing.specs.Finding as Finding
use Rattle.definition_frames.specs.declared.runs.Run.{Run}
use Rattle.listing.specs.declared.extents.Extent.{Extent}
use Rattle.listing.specs.declared.extents.Size.{Size}
use Rattle.listing.specs.declared.surveys.Survey.{Survey}
use Rattle.listing.specs.declared.locating.Shape.{Shape}
use Rattle.listing.specs.declared.models.ModelAt.{ModelAt}
use Rattle.listing.specs.declared.records.Visit.{Visit}
use Rattle.listing.specs.declared.records.Progress.{Progress}

-- If a definition was found at frame i, the frames of its top group, to their end frame, begin there.
abbrev pub FoundParses : List ℕ → Option ℕ → Type 0
FoundParses ws (Some i) = ParsesAt ws i
FoundParses ws None = Unit {0}

-- The run r is that of the points of the group whose content begins at frame `first`.
abbrev pub RunOf : List ℕ → ℕ → Run → Type 0
RunOf ws first r = DefinitionFrames.RunOf (content_from ws first).points first r

-- The registers and the points of a size, 0 if there is none.
abbrev pub registers_or0 : Option Size → ℕ
registers_or0 (Some s) = s.registers
registers_or0 None = 0

abbrev pub points_or0 : Option Size → ℕ
points_or0 (Some s) = s.points
points_or0 None = 0

-- The extent r is that of the groups gs: sizes and numbers of points capped at 65,536, counts by the scope `top`.
pub record ExtentOf (top : Scope) (gs : Groups) (r : Extent) : Type 0 where
  pub size : r.size.registers ≡ min (groups_size (count_of top 0) gs) 65536
  pub points : r.size.points ≡ min (groups_points (count_of top 0) gs) 65536
  pub fill_size : registers_or0 r.fill ≡ min (or0 (fill_size (count_of top 0) gs)) 65536
  pub fill_points : points_or0 r.fill ≡ min (fill_points (count_of top 0) gs) 65536
  pub unimplemented : r.unimplemented ≡ count_unimplemented top gs

-- The extent r is `sum` and one more group: its head h, its points `run` and the groups in it, `inside`.
pub record WithGroup (sum : Extent) (top : Scope) (h : Frames.Head) (run : Run) (inside r : Extent) : Type 0 where
  pub size : r.size.registers ≡ min (sum.size.registers + count_of top 0 h * min (run.size + inside.size.registers) 65536) 65536
  pub points : r.size.points ≡ min (sum.size.points + count_of top 0 h * min (run.points + inside.size.points) 65536) 65536
  pub fill_size : registers_or0 r.fill
      ≡ elim (eqb h.count_kind Frames.fill) [ true ↦ min (run.size + inside.size.registers) 65536 | false ↦ registers_or0 sum.fill ]
  pub fill_points : points_or0 r.fill
      ≡ elim (eqb h.count_kind Frames.fill) [ true ↦ min (run.points + inside.size.points) 65536 | false ↦ points_or0 sum.fill ]
  pub unimplemented : r.unimplemented
      ≡ (sum.unimplemented
      || (inside.unimplemented || (eqb h.count_kind Frames.count_by_point && eqb (top h.count) 0xFFFF)))
  pub next : r.next ≡ inside.next

-- The result of a survey by the count of the fill group: 29 if the length does not fit, else the number of points.
abbrev pub surveyed_by : ℕ → Run → Extent → Math.Option ℕ → Result Survey Refusal
surveyed_by first run groups none = Err Refusal.LengthNotSize
surveyed_by first run groups (some count) =
    Ok (record { first = first; points = run.points + groups.size.points + count * points_or0 groups.fill; fill = count })

-- The same for a model of length `len`, by the sizes.
abbrev pub fitted_by : ℕ → Run → Extent → ℕ → Result Survey Refusal
fitted_by first run groups len = surveyed_by first run groups (filled len (run.size + groups.size.registers) (registers_or0 groups.fill))

-- If a survey of a known model counts points, the catalog and the table are ready for writing their records.
abbrev pub KnownReadyBy : List ℕ → ℕ → List ℕ → List ℕ → Result Survey Refusal → Type 0
KnownReadyBy ws id body table (Ok s) = Ready ws id body table s.first s.fill
KnownReadyBy ws id body table (Err refusal) = Unit {0}

-- The same of any survey.
abbrev pub ReadyBy : List ℕ → ℕ → List ℕ → List ℕ → Result (Option Survey) Refusal → Type 0
ReadyBy ws id body table (Ok None) = Unit {0}
ReadyBy ws id body table (Ok (Some s)) = Ready ws id body table s.first s.fill
ReadyBy ws id body table (Err refusal) = Unit {0}

-- What locating a point in groups requires: sound groups, at most `levels` levels deep, begin at `frame` and end at offset 65536
-- or before.
pub record LocateAsks (ws table : List ℕ) (fill levels frame offset : ℕ) : Type 0 where
  pub position : AtGroups ws frame levels
  pub at_most3 : levels ≤ 3
  pub inside : offset + groups_size (count_of (scope_in table) fill) (content_from ws frame).groups ≤ 65536

-- What locating a point in a model of length `len` requires: its definition begins at frame `first`; its groups can be searched.
pub record ModelAsks (ws table : List ℕ) (len first fill : ℕ) : Type 0 where
  pub parses : ParsesAt ws first
  pub short : len ≤ 65535
  pub groups : LocateAsks ws table fill 3 (first + length (content_from ws first).points) (points_size (content_from ws first).points)

-- Point `number` at `path` in a model of length `len`: among the top points that begin within the length, or in the groups.
abbrev pub located_within : (Frames.Head → ℕ) → ℕ → List ℕ → ℕ → Content → Math.Option Located
located_within count number path len c =
    or_else (located_own number path 1 0 (present_within len 0 c.points))
    (located_in count number path 2 (points_size c.points) c.groups)

-- The shape r is that of the group at `frame`, with head h. The size of an instance is exact if the groups in it have at most
-- 65,536 registers.
pub record ShapeOf (ws : List ℕ) (counting : Frames.Head → ℕ) (h : Frames.Head) (frame : ℕ) (r : Shape) : Type 0 where
  pub count : r.count ≡ counting h
  pub few : r.count ≤ 65535
  pub own : r.own_size ≡ points_size (content_from ws (frame + 1)).points
  pub size : r.size ≡ r.own_size + min (groups_size counting (content_from ws (frame + 1)).groups) 65536
  pub short : r.own_size ≤ 262144
  pub inside : r.inside ≡ frame + 1 + length (content_from ws (frame + 1)).points
  pub next : r.next ≡ past_end ws (frame + 1)

-- What `find` returns of a point that was located in a body, for a model whose header has address `at`.
abbrev pub target_at : ℕ → List ℕ → Located → Finding.Target
target_at at body l =
    record {
      address = at + 2 + l.offset;
      definition = l.definition;
      raw = shown_raw (registers_at body l.offset l.definition);
    }

-- What a search in the model whose header has address `at` returns for the point that it finds, if any.
abbrev pub result_at : ℕ → Math.Option ModelPoint → Finding.Result
result_at at none = Finding.nothing_result
result_at at (some p) = Finding.found_result (record { address = at + 2 + p.offset; definition = p.definition; raw = p.raw })

-- The record of a point of the visited model.
abbrev pub record_at : Visit → ModelPoint → Listing.Record
record_at visit = Listing.record_of visit.index visit.address visit.id

-- The visit of a model of the map whose index is `index`.
abbrev pub visit_of : ℕ → ModelAt → Visit
visit_of index m = record { index = index; id = m.id; address = m.address }

-- The output list after writing the points ps of the visited model, the first of them as record number `count`.
abbrev pub written : Visit → ℕ → List ModelPoint → List ℕ → List ℕ
written visit count ps out = sets out (Listing.record_width * count) (Listing.entries (map (record_at visit) ps))

-- Point p has a size that its type allows, and is inside the body at `offset`.
pub record PointFits (body : List ℕ) (offset : ℕ) (p : Frames.Point) : Type 0 where
  pub sized : is_size_of p.type_code p.size ≡ true
  pub inside : offset + p.size ≤ length body

-- What writing the points of an instance requires: they begin at the frame and are inside the body; the list has capacity for them.
pub record RunAsks (ws body out : List ℕ) (at : Progress) (ps : List Frames.Point) : Type 0 where
  pub parses : ParsesAt ws at.frame
  pub sized : Each (λ p. is_size_of p.type_code p.size ≡ true) (content_from ws at.frame).points
  pub inside : at.offset + points_size ps ≤ length body
  pub capacity : Listing.record_width * (at.records + length ps) ≤ length out

-- The progress r after writing the points ps.
pub record AfterRun (at : Progress) (ps : List Frames.Point) (r : Progress) : Type 0 where
  pub records : r.records ≡ at.records + length ps
  pub offset : r.offset ≡ at.offset + points_size ps
  pub frame : r.frame ≡ at.frame + length ps

-- What writing groups requires: they begin at the frame and are inside the body; the list has capacity for their points.
pub record GroupsAsk (ws body table out : List ℕ) (fill levels : ℕ) (at : Progress) : Type 0 where
  pub position : AtGroups ws at.frame levels
  pub at_most3 : levels ≤ 3
  pub inside : at.offset + groups_size (count_of (scope_in table) fill) (content_from ws at.frame).groups ≤ length body
  pub capacity : Listing.record_width * (at.records + groups_points (count_of (scope_in table) fill) (content_from ws at.frame).groups)
      ≤ length out

-- The progress r after writing the groups gs.
pub record AfterGroups (gs : Groups) (count : Frames.Head → ℕ) (at r : Progress) : Type 0 where
  pub records : r.records ≡ at.records + groups_points count gs
  pub offset : r.offset ≡ at.offset + groups_size count gs

-- The answer is no refusal, and the list has the capacity for its records.
abbrev pub WalkFits : Listing.Answer → List ℕ → Type 0
WalkFits (Listing.refused number place headers) out = ⊥
WalkFits (Listing.listed rs headers) out = Listing.record_width * length rs ≤ length out

-- The answer is no refusal.
abbrev pub IsListed : Listing.Answer → Type 0
IsListed (Listing.refused number place headers) = ⊥
IsListed (Listing.listed rs headers) = Unit {0}
