-- The reading of one model's body by its definition (document 01, "Listing", 27 to 29): a fault, or its points.
use Rattle.std.specs.Prelude.{Bool, true, false, ◌&&◌, List, [], ◌∷◌, ℕ, ◌+◌, eqb, ltb, length}
use Rattle.std.proofs.Math.Option.{Option, none, some}
use Rattle.catalog_frames.specs.Frames.{Point, pad}
use Rattle.model_definitions.specs.Definitions.{Groups, no_group, group, Content, Definition, points_size}
use Rattle.register_map.specs.Scan.{Model}
use Rattle.layout.specs.Points.{ModelPoint}
use Rattle.layout.specs.Layout.{top_scope, count_unimplemented, fits, top_instance, points_at, content_at}

-- 27: the length is under the top points. 28: a count point reads FFFF. 29: the length is not the size.
pub data Fault : Type 0 where
  below_top_points count_point_unimplemented not_the_size : Fault

-- The number of the refusal for a fault.
abbrev pub fault_number : Fault → ℕ
fault_number below_top_points = 27
fault_number count_point_unimplemented = 28
fault_number not_the_size = 29

-- The reading of a model by a catalog: unknown if its id is not in the catalog, else a fault or the points.
pub data Reading : Type 0 where
  unknown : Reading
  faulty : Fault → Reading
  points : List ModelPoint → Reading

-- Is the last of these points a pad?
unfoldable pub ends_with_pad : List Point → Bool
ends_with_pad [] = false
ends_with_pad (p ∷ []) = eqb p.type_code pad
ends_with_pad (p ∷ q ∷ ps) = ends_with_pad (q ∷ ps)

-- All points but the last.
unfoldable pub all_but_last : List Point → List Point
all_but_last [] = []
all_but_last (p ∷ []) = []
all_but_last (p ∷ q ∷ ps) = p ∷ all_but_last (q ∷ ps)

-- Is there no group?
abbrev pub has_no_group : Groups → Bool
has_no_group no_group = true
has_no_group (group h ps inside following) = false

-- Is the last pad left out? Document 01 allows it for id 1 if the definition has no group and ends with a pad, and the length is one
-- register short.
abbrev pub pad_left_out : ℕ → Content → ℕ → Bool
pad_left_out id c len =
    eqb id 1 && (has_no_group c.groups && (ends_with_pad c.points && eqb (len + 1) (points_size c.points)))

-- The first of 27, 28 and 29 that applies, else the points.
unfoldable pub read_full : Content → List ℕ → Reading
read_full c body =
    elim (ltb (length body) (points_size c.points)) [
      | true ↦ faulty below_top_points
      | false ↦ elim (count_unimplemented (top_scope c.points body) c.groups) [
        | true ↦ faulty count_point_unimplemented
        | false ↦ elim (fits c body) [ false ↦ faulty not_the_size | true ↦ points (content_at c body) ]
      ]
    ]

-- The reading of a model with this id by the top group of its definition. A pad that is left out has no record, and 27 and 29
-- do not arise.
unfoldable pub read_by : ℕ → Content → List ℕ → Reading
read_by id c body =
    elim (pad_left_out id c (length body)) [
      | true ↦ points (points_at body (top_instance (all_but_last c.points) body) 0 (all_but_last c.points))
      | false ↦ read_full c body
    ]

-- The top group of the first definition with this id, if there is one.
unfoldable pub top_of : ℕ → List Definition → Option Content
top_of id [] = none
top_of id (d ∷ ds) = elim (eqb d.id id) [ true ↦ some d.top | false ↦ top_of id ds ]

-- The reading of a model by the definitions of a catalog.
unfoldable pub reading : List Definition → Model → Reading
reading ds m = elim (top_of m.id ds) [ none ↦ unknown | some c ↦ read_by m.id c m.body ]
