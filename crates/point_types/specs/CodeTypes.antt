-- What the code's types stand for: the code's rows as the table's rows, and the results of the public calls.
use Rattle.std.proofs.Math.Option as Options
use Rattle.std.specs.Prelude.{◌≡◌, ℕ, pos, neg_ℤ, Option, Some, None}
use Rattle.std.specs.Float.Ieee as Ieee
use Rattle.point_types.specs.Presence as Presences
use Rattle.point_types.specs.Rows as Rows
use Rattle.point_types.specs.declared.Presence.{Presence}
use Rattle.point_types.specs.declared.Format.{Format}
use Rattle.point_types.specs.declared.Kind.{Kind}
use Rattle.point_types.specs.declared.Range.{Range}
use Rattle.point_types.specs.declared.TypeRow.{TypeRow}
use Rattle.point_types.specs.declared.RegisterCount.{RegisterCount}

-- The presence of a point.
abbrev pub to_spec_presence : Presence → Presences.Presence
to_spec_presence Presence.Mandatory = Presences.mandatory
to_spec_presence Presence.Optional = Presences.optional

-- `presence` is what word 6 of a point frame means.
abbrev pub Means : ℕ → Presence → Type 0
Means word presence = to_spec_presence presence ≡ Presences.presence_of word

-- The parts of a row, a row, and the result of `row_of`.
abbrev pub to_spec_format : Format → Ieee.Format
to_spec_format Format.Binary32 = Ieee.binary32
to_spec_format Format.Binary64 = Ieee.binary64

abbrev pub to_spec_kind : Kind → Rows.Kind
to_spec_kind Kind.Signed = Rows.signed
to_spec_kind Kind.Unsigned = Rows.unsigned
to_spec_kind Kind.Accumulator = Rows.accumulator
to_spec_kind (Kind.Float f) = Rows.float (to_spec_format f)

abbrev pub to_spec_unimplemented : Option ℕ → Rows.Unimplemented
to_spec_unimplemented None = Rows.never
to_spec_unimplemented (Some p) = Rows.pattern p

abbrev pub to_spec_range : Range → Rows.Range
to_spec_range Range.Whole = Rows.whole
to_spec_range (Range.UpTo n) = Rows.between (pos 0) (pos n)
to_spec_range (Range.Only n) = Rows.between (pos n) (pos n)
to_spec_range Range.ScaleFactor = Rows.between (neg_ℤ (pos 10)) (pos 10)
to_spec_range Range.NotNan = Rows.not_nan

abbrev pub to_spec_row : TypeRow → Rows.TypeRow
to_spec_row r =
    record {
      code = r.code;
      fewest = r.fewest;
      most = r.most;
      scalable = r.scalable;
      kind = to_spec_kind r.kind;
      unimplemented = to_spec_unimplemented r.unimplemented;
      range = to_spec_range r.range;
    }

abbrev pub to_spec_found : Option TypeRow → Options.Option Rows.TypeRow
to_spec_found (Some r) = Options.some (to_spec_row r)
to_spec_found None = Options.none

-- The result of `register_count`.
abbrev pub to_spec_count : Option RegisterCount → Options.Option (ℕ × ℕ)
to_spec_count (Some count) = Options.some (count.fewest, count.most)
to_spec_count None = Options.none
