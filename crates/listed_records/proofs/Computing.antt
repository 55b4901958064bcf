-- What a listing computes with: a proof that runs `listing` on values names `computing` on its `unfolding` line.
use lib.Ieee.{nan_bits}
use Rattle.registers.specs.Registers.{join, shown_raw, too_wide}
use Rattle.point_types.specs.Rows.{rows, row_among, may_scale, registers_of}
use Rattle.values.specs.Classes.{twos_complement, integer, in_range, class_of, classified}
use Rattle.catalog_frames.specs.Frames.{frame_of, frames_from}
use Rattle.frame_rules.specs.FrameTests.{is_size_of}
use Rattle.catalog.specs.Checking.{check_from, checked}
use Rattle.model_definitions.specs.Definitions.{parsed}
use Rattle.register_map.specs.Headers.{opening}
use Rattle.register_map.specs.Scan.{scan_from, scan}
use Rattle.layout.specs.Points.{point_at}
use Rattle.layout.specs.Layout.{within, measured, fill_measured, count_unimplemented, fits, fill_of, points_at, instances, groups_by, entered, content_at}
use Rattle.layout.specs.Reading.{ends_with_pad, all_but_last, read_full, read_by, top_of, reading}
use Rattle.listing.specs.Listing.{record_numbers, walk, records_by, all_records, with_capacity, listing, stored, consecutive}

unfoldable pub computing : Unit {0}
unfolding check_from checked frames_from frame_of is_size_of rows row_among may_scale registers_of twos_complement join shown_raw too_wide
    integer nan_bits in_range class_of classified parsed opening scan_from scan point_at within measured fill_measured count_unimplemented
    fits fill_of points_at instances groups_by entered content_at ends_with_pad all_but_last read_full read_by top_of reading record_numbers
    walk records_by all_records with_capacity listing stored consecutive
computing = tt
