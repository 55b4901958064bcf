-- From the code's frame types to those of the definitions.
use Rattle.std.specs.declared.option.Option.{Option}
use Rattle.std.specs.declared.option.Option.TheVariants.{Some, None}
use Rattle.catalog_frames.specs.Frames as Frames
use Rattle.catalog_frames.specs.declared.Frame.{Frame}
use Rattle.catalog_frames.specs.declared.Point.{Point}
use Rattle.catalog_frames.specs.declared.Head.{Head}

-- The code's `Point` as the definition's.
abbrev pub to_spec_point : Point → Frames.Point
to_spec_point p =
    record {
      number = p.number;
      type_code = p.type_code;
      size = p.size;
      scale_kind = p.scale_kind;
      scale = p.scale;
      mandatory = p.mandatory;
      access = p.access;
    }

-- The code's `Head` as the definition's.
abbrev pub to_spec_head : Head → Frames.Head
to_spec_head h =
    record { number = h.number; group_type = h.group_type; count_kind = h.count_kind; count = h.count }

-- The code's frame as the definition's: `None` is a malformed one.
abbrev pub to_spec_frame : Option Frame → Frames.Frame
to_spec_frame (Some (Frame.Model id)) = Frames.model_frame id
to_spec_frame (Some (Frame.Group h)) = Frames.group_frame (to_spec_head h)
to_spec_frame (Some (Frame.Point p)) = Frames.point_frame (to_spec_point p)
to_spec_frame (Some Frame.End) = Frames.end_frame
to_spec_frame None = Frames.malformed
