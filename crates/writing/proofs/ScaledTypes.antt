-- What the table of types says of scale factors and of the types that may carry one.
use mathlib.Core.Path.{◌≡◌, refl, sym, ◌∙◌}
use mathlib.Core.Bool.{true, false}
use mathlib.Core.List.{List}
use Prim.Native.Nat.{ℕ, ◌≤◌}
use native.Mathlib.Omega.{arith}
use lib.ListN.{length, drop, length-take}
use Rattle.point_types.specs.Rows.{rows, row_among, may_scale, registers_of}
use Rattle.point_types.proofs.Table.{listed, scalable_width}
use Rattle.catalog_frames.specs.Frames.{Point, scale_by_point, sunssf}
use Rattle.frame_rules.specs.FrameTests.{is_size_of}
use Rattle.model_definitions.specs.Soundness.{SoundPoint}
use Rattle.layout.specs.Points.{registers_at}
use Rattle.layout.proofs.LeftOutPad.{one_register_size}
use Rattle.shown_points.proofs.PointClasses.{row_of_size}

-- A scale factor is one register,
pub scale_factor_size : (size : ℕ) → is_size_of sunssf size ≡ true → size ≡ 1
unfolding registers_of row_among rows
scale_factor_size size = one_register_size sunssf size refl

-- and has no scale factor itself.
pub scale_factor_unscaled : may_scale sunssf ≡ false
unfolding may_scale row_among rows
scale_factor_unscaled = refl

-- A type that may carry a scale factor has at most four registers.
scaled_small : (code size : ℕ) → is_size_of code size ≡ true → may_scale code ≡ true → size ≤ 4
unfolding may_scale
scaled_small code size e t =
    let row = row_of_size code size e in
    let r = row.0 in
    let four = scalable_width r (listed code r row.1) (rw (may_scale, row.1) at t) in
    omega (arith, row.2, four)

module _ (around : List Point) (p : Point) (sound : SoundPoint around p) (k : p.scale_kind ≡ scale_by_point) where
  -- The type of a point that takes its scale from a point may carry a scale factor,
  pub by_point_may : may_scale p.type_code ≡ true
  by_point_may = sound.scalable (λ z. let c : ◌≡◌ {A = ℕ} 0 2 = sym z ∙ k in absurd (omega arith))

  -- so the point has at most four registers.
  pub by_point_few : (body : List ℕ) (a : ℕ) → length (registers_at body a p) ≤ 4
  by_point_few body a =
      let four = scaled_small p.type_code p.size sound.sized by_point_may in
      omega (arith, length-take p.size (drop a body))
