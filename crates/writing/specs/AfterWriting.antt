-- How the records of a map change by an accepted write: the point written, the points that it scales, and all others.
use Rattle.std.specs.Prelude.{◌≡◌, Bool, true, false, ◌&&◌, List, ℕ, eqb}
use Rattle.std.proofs.Math.Option.{Option, none, some}
use Rattle.values.specs.Classes.{value, of_class}
use Rattle.catalog_frames.specs.Frames.{scale_by_point}
use Rattle.model_definitions.specs.Definitions.{Content, Definition}
use Rattle.layout.specs.Points.{ModelPoint, point_class, status_of, scale_of}
use Rattle.layout.specs.Paths.{depth_in, agree_to, path_of}
use Rattle.layout.specs.Reading.{top_of}
use Rattle.listing.specs.Listing.{Record}

-- ---- Whose scale factor a point is

-- Is point w the scale factor of point p, in a model whose definition has the top group `top`? Point p names the number of w, and w
-- is in the same instance or in one around it (document 01, "Status of a point").
abbrev pub is_scale_factor_of : Content → ModelPoint → ModelPoint → Bool
is_scale_factor_of top w p =
    eqb p.definition.scale_kind scale_by_point
    && (eqb p.definition.scale w.definition.number
    && agree_to (depth_in w.definition.number top.groups) (path_of w) (path_of p))

-- ---- Points after the write

-- Points p and q have the same place in a model and the same definition.
pub record SamePlace (p q : ModelPoint) : Type 0 where
  pub offset : q.offset ≡ p.offset
  pub definition : q.definition ≡ p.definition
  pub level2 : q.level2 ≡ p.level2
  pub level3 : q.level3 ≡ p.level3
  pub level4 : q.level4 ≡ p.level4

-- The point written, p before and q after: it holds `raw`, and has the status and the scale of a value whose scale point reads
-- `register`. So it is neither unimplemented nor out of range; if it was not out of range before, its status and scale stay.
-- (`ScaledBy` in `ReadBack.antt` gives the status and the scale by the record of the scale point.)
pub record Holds (raw : ℕ) (p q : ModelPoint) : Type 0 where
  pub place : SamePlace p q
  pub holds : q.raw ≡ raw
  pub register : ℕ
  pub status : q.status ≡ status_of p.definition (of_class value) register
  pub scale : q.scale ≡ scale_of p.definition q.status register
  pub implemented : q.status ≡ 1 → ⊥
  pub mandatory : q.status ≡ 2 → ⊥
  pub in_range : q.status ≡ 5 → ⊥
  pub same_status : (p.status ≡ 5 → ⊥) → q.status ≡ p.status
  pub same_scale : (p.status ≡ 5 → ⊥) → q.scale ≡ p.scale

-- Point p with the status and the scale that `raw` gives, as the raw value of its scale factor; all else as before.
abbrev pub rescaled : ℕ → ModelPoint → ModelPoint
rescaled raw p =
    let status = status_of p.definition (point_class p.definition p.raw) raw in
    record {
      offset = p.offset;
      definition = p.definition;
      level2 = p.level2;
      level3 = p.level3;
      level4 = p.level4;
      status = status;
      raw = p.raw;
      scale = scale_of p.definition status raw;
    }

-- Point p has become q by writing `raw` to the point w of the same model: p is the point written; or w is its scale factor; or p
-- stays as it is.
abbrev pub PointAfter : Content → ModelPoint → ℕ → ModelPoint → ModelPoint → Type 0
PointAfter top w raw p q =
    elim (eqb p.offset w.offset) [
      | true ↦ Holds raw p q
      | false ↦ elim (is_scale_factor_of top w p) [ true ↦ q ≡ rescaled raw p | false ↦ q ≡ p ]
    ]

-- The same for a point of any model, by whether its model is that of w and by the top group of that model's definition: a point of
-- another model stays as it is.
abbrev pub PointBecomes : Bool → Option Content → ModelPoint → ℕ → ModelPoint → ModelPoint → Type 0
PointBecomes false top w raw p q = q ≡ p
PointBecomes true none w raw p q = ⊥
PointBecomes true (some top) w raw p q = PointAfter top w raw p q

-- Records r and s are of the same point: of the same model, at the same address, with the same place and definition.
pub record OfSamePoint (r s : Record) : Type 0 where
  pub index : s.index ≡ r.index
  pub id : s.id ≡ r.id
  pub address : s.address ≡ r.address
  pub place : SamePlace r.point s.point

-- Record r has become s by writing `raw` to the point of record w, by the definitions `ds` of a catalog. It is of the same point.
pub record RecordAfter (ds : List Definition) (w : Record) (raw : ℕ) (r s : Record) : Type 0 where
  pub same : OfSamePoint r s
  pub point : PointBecomes (eqb r.index w.index) (top_of w.id ds) w.point raw r.point s.point
