-- An example by computation: two instances of a group, each with its own scale factor.
use mathlib.Core.Path.{◌≡◌, refl}
use mathlib.Core.List.{[], ◌∷◌, map}
use Rattle.registers.specs.Registers.{join, shown_raw, too_wide}
use Rattle.point_types.specs.Rows.{rows, row_among}
use Rattle.values.specs.Classes.{twos_complement, integer, in_range, class_of, classified}
use Rattle.catalog_frames.specs.Frames.{Point, Head, constant_count, no_scale, scale_by_point, sunssf, uint16, read_only}
use Rattle.model_definitions.specs.Definitions.{no_group, group, Content}
use Rattle.layout.specs.Points.{point_at}
use Rattle.layout.specs.Layout.{within, measured, fill_measured, fill_of, points_at, instances, groups_by, entered, content_at}

-- A scale factor, and a uint16 with this scale factor.
abbrev factor : Point
factor =
    record { number = 1; type_code = sunssf; size = 1; scale_kind = no_scale; scale = 0; mandatory = 0; access = read_only }

abbrev scaled : Point
scaled =
    record { number = 2; type_code = uint16; size = 1; scale_kind = scale_by_point; scale = 1; mandatory = 0; access = read_only }

-- A group of these two, repeated twice.
abbrev twice : Head
twice = record { number = 3; group_type = 0; count_kind = constant_count; count = 2 }

abbrev two_instances : Content
two_instances = record { points = []; groups = group twice (factor ∷ scaled ∷ []) no_group no_group }

-- The scale factors in the body are −2 and 1. Each value is shown with the scale factor of its own instance.
pub own_scales : map (λ p. p.scale) (content_at two_instances (0xFFFE ∷ 10 ∷ 1 ∷ 20 ∷ [])) ≡ 0 ∷ 0xFFFE ∷ 0 ∷ 1 ∷ []
unfolding rows row_among twos_complement join shown_raw too_wide integer in_range class_of classified point_at within measured fill_measured fill_of points_at instances groups_by entered content_at
own_scales = refl
