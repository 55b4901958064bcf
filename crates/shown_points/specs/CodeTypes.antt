-- What `show` returns, and the class of registers that it uses.
use Rattle.std.specs.Prelude.{true, false, List, ℕ, leb, length}
use Rattle.registers.specs.Registers.{join, all_zero, shown_raw}
use Rattle.values.specs.Classes.{Classified}
use Rattle.catalog_frames.specs.Frames as Frames
use Rattle.layout.specs.Points.{point_class, status_of, scale_of}
use Rattle.shown_points.specs.declared.Shown.{Shown}
use Rattle.shown_points.specs.declared.Status.{Status}

-- The class that `show` gives any registers of a point: up to four, the class of their raw value; more than four, the class of 0 if all
-- are 0, else the class of 1. (It is the class of the raw value for any size that the type may have:
-- `proofs/PointClasses.antt`.)
unfoldable pub registers_class : Frames.Point → List ℕ → Classified
registers_class p rs =
    elim (leb (length rs) 4) [
      | true ↦ point_class p (join rs)
      | false ↦ elim (all_zero rs) [ true ↦ point_class p 0 | false ↦ point_class p 1 ]
    ]

-- What is shown of a point: its status, raw value and scale.
pub record PointShown : Type 0 where
  pub status : ℕ
  pub raw : ℕ
  pub scale : ℕ

-- The number of a status (document 01, "Status of a point").
abbrev pub to_spec_status : Status → ℕ
to_spec_status Status.Value = 0
to_spec_status Status.Unimplemented = 1
to_spec_status Status.MandatoryUnimplemented = 2
to_spec_status Status.ScaleUnimplemented = 3
to_spec_status Status.ScaleOutOfRange = 4
to_spec_status Status.OutOfRange = 5

-- The result of `show`.
abbrev pub to_spec_shown : Shown → PointShown
to_spec_shown s = record { status = to_spec_status s.status; raw = s.raw; scale = s.scale }

-- What is shown of a point with these registers of this class, where `register` is the register of its scale point.
abbrev pub shown_by : Frames.Point → Classified → List ℕ → ℕ → PointShown
shown_by p class registers register =
    let status = status_of p class register in
    record { status = status; raw = shown_raw registers; scale = scale_of p status register }
