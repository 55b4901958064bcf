-- What listing shows of a point (document 01, "Status of a point" and "Listing"): status, raw value and scale.
use Rattle.std.specs.Prelude.{true, false, List, ℕ, eqb, take, drop, get_or}
use Rattle.registers.specs.Registers.{join, shown_raw}
use Rattle.point_types.specs.Presence.{Presence, mandatory, optional, presence_of}
use Rattle.values.specs.Classes.{value, unimplemented, out_of_range, Classified, of_class, too_wide, unknown_type, classified}
use Rattle.catalog_frames.specs.Frames.{Point, fixed_scale, scale_by_point, sunssf}

-- A point of a model: its offset in the body (0 is the register after the length), its definition in the catalog, its instance
-- numbers at levels 2, 3 and 4 (0 where absent), its status, raw value and scale.
pub record ModelPoint : Type 0 where
  pub offset : ℕ
  pub definition : Point
  pub level2 : ℕ
  pub level3 : ℕ
  pub level4 : ℕ
  pub status : ℕ
  pub raw : ℕ
  pub scale : ℕ

-- The first register of each point in scope, by the point's number. In scope are the points of the same instance and of the
-- enclosing instances.
abbrev pub Scope : Type 0
Scope = ℕ → ℕ

-- An instance of a group: the points in scope inside it, and its path, the instance numbers at levels 2, 3 and 4 (three
-- numbers, 0 where absent).
pub record Instance : Type 0 where
  pub scope : Scope
  pub path : List ℕ

-- The class of a raw value of point p: by its type, and by whether it is mandatory (change request 2).
abbrev pub point_class : Point → ℕ → Classified
point_class p raw = classified p.type_code (presence_of p.mandatory) raw

-- The class of the register of a scale point. (Mandatory or optional is the same here: `any_scale_presence` in
-- proofs/ValueStatus.antt.)
abbrev pub scale_class : ℕ → Classified
scale_class register = classified sunssf optional register

-- The status of a value by the class of its scale point: 3 if that is unimplemented, 4 if it is out of range, else 0.
abbrev pub scale_status : Classified → ℕ
scale_status (of_class value) = 0
scale_status (of_class unimplemented) = 3
scale_status (of_class out_of_range) = 4
scale_status too_wide = 4
scale_status unknown_type = 4

-- The status of an unimplemented point: mandatory 2, optional 1.
abbrev pub unimplemented_status : Presence → ℕ
unimplemented_status mandatory = 2
unimplemented_status optional = 1

-- The status of a point by the class of its registers and the register of its scale point, the first that applies:
-- unimplemented and mandatory 2, unimplemented 1; out of range 5; then by the scale point, if it has one. (By an accepted
-- catalog, 16-bit registers are never too wide or of an unknown type: `shown_points/proofs/PointClasses.antt`.)
abbrev pub status_of : Point → Classified → ℕ → ℕ
status_of p (of_class unimplemented) register = unimplemented_status (presence_of p.mandatory)
status_of p (of_class out_of_range) register = 5
status_of p too_wide register = 5
status_of p unknown_type register = 5
status_of p (of_class value) register =
    elim (eqb p.scale_kind scale_by_point) [ true ↦ scale_status (scale_class register) | false ↦ 0 ]

-- The scale shown, as 16-bit two's complement: the fixed scale or the scale point's register; 0 unless the status is 0 and the
-- point has a scale.
abbrev pub scale_of : Point → ℕ → ℕ → ℕ
scale_of p status register =
    elim (eqb status 0) [
      | false ↦ 0
      | true ↦ elim (eqb p.scale_kind fixed_scale) [
        | true ↦ p.scale
        | false ↦ elim (eqb p.scale_kind scale_by_point) [ true ↦ register | false ↦ 0 ]
      ]
    ]

-- The registers of a point at an offset. (In an accepted map they are all in the body: `proofs/BodyTiling.antt`.)
abbrev pub registers_at : List ℕ → ℕ → Point → List ℕ
registers_at body offset p = take p.size (drop offset body)

-- The status of a point at an offset of the body.
abbrev pub status_at : List ℕ → Scope → ℕ → Point → ℕ
status_at body scope offset p =
    status_of p (point_class p (join (registers_at body offset p))) (scope p.scale)

-- A point of instance `i`, at an offset of the body.
unfoldable pub point_at : List ℕ → Instance → ℕ → Point → ModelPoint
point_at body i offset p =
    record {
      offset = offset;
      definition = p;
      level2 = get_or i.path 0 0;
      level3 = get_or i.path 1 0;
      level4 = get_or i.path 2 0;
      status = status_at body i.scope offset p;
      raw = shown_raw (registers_at body offset p);
      scale = scale_of p (status_at body i.scope offset p) (i.scope p.scale);
    }
