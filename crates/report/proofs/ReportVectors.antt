-- Document 01's example of the program, and edge cases of its input: the output that the definitions give, computed.
use mathlib.Core.Path.{◌≡◌, refl}
use mathlib.Core.List.{List, [], ◌∷◌, map}
use Prim.Native.Nat.{ℕ}
use Rattle.registers.specs.Registers.{join, shown_raw, too_wide}
use Rattle.point_types.specs.Rows.{rows, row_among, may_scale, registers_of}
use Rattle.values.specs.Classes.{twos_complement, integer, in_range, class_of, classified}
use Rattle.display.specs.Decimals.{last_digits, digit_count_within}
use Rattle.catalog_frames.specs.Frames.{frame_of, frames_from}
use Rattle.frame_rules.specs.FrameTests.{is_size_of}
use Rattle.catalog.specs.Checking.{check_from, checked}
use Rattle.model_definitions.specs.Definitions as Definitions
use Rattle.register_map.specs.Headers.{opening}
use Rattle.register_map.specs.Scan.{scan_from, scan}
use Rattle.layout.specs.Points.{point_at}
use Rattle.layout.specs.Layout.{within, measured, fill_measured, count_unimplemented, fits, fill_of, points_at, instances, groups_by, entered, content_at}
use Rattle.layout.specs.Reading.{ends_with_pad, all_but_last, read_full, read_by, top_of, reading}
use Rattle.listing.specs.Listing.{record_numbers, walk, records_by, all_records, with_capacity, listing}
use Rattle.lists.specs.Ascii.{ascii}
use Rattle.input.specs.Lines.{lines}
use Rattle.input.specs.Digits.{digit_value, is_digit, digit_or0, words_of}
use Rattle.input.specs.Parsing.{map_from, catalog_from}
use Rattle.report.specs.Text.{numbers_line, record_lines, listing_text, refusal_text}
use Rattle.report.specs.Program.{found, output}

-- The example.
abbrev pub example_input : List ℕ
example_input =
    ascii
    "00010384000000000000000000000000\n00030001000100010002000300010000\n00030002000200010000000000010000\n00030003000800010000000000010000\n00020004000000010002000000000000\n00030005000A00020000000000000001\n00040000000000000000000000000000\n00040000000000000000000000000000\n\n53756E530001000100000384000700E60002FFFF00000005FFFFFFFFFFFF0000\n"

abbrev pub example_output : List ℕ
example_output =
    ascii
    "points 5 headers 3\n1 900 1 0 0 0 7 0 230 65535\n1 900 2 0 0 0 8 0 2 0\n1 900 3 0 0 0 9 0 65535 0\n1 900 5 0 0 0 10 0 5 0\n1 900 5 1 0 0 12 1 4294967295 0\n"

-- An input and its output.
abbrev pub Case : Type 0
Case = List ℕ × List ℕ

unfoldable pub cases : List Case
cases =
    -- An empty input, one LF (an empty catalog and an empty map), an empty line in the map.
    (ascii "", ascii "refused 51 at 1\n")
    ∷ (ascii "\n", ascii "refused 21 at 0\n")
    ∷ (ascii "\n\n", ascii "refused 50 at 2\n")
    -- A refusal of the catalog and one of the map.
    ∷ (ascii "00010384000000000000000000000000\n\n53756E53\n", ascii "refused 11 at 1\n")
    ∷ (ascii "\n53756E530002", ascii "refused 22 at 2\n")
    -- A map of unknown models: no points.
    ∷ (ascii "\n53756E5300010001ABCDFFFF0000", ascii "points 0 headers 2\n")
    ∷ (example_input, example_output)
    ∷ []

-- Every input gives the output of its case.
pub printed_so : map (λ (c : Case). output c.0) cases ≡ map (λ (c : Case). c.1) cases
unfolding cases check_from checked frames_from frame_of is_size_of rows row_among may_scale registers_of twos_complement join shown_raw too_wide integer in_range class_of classified Definitions.parsed opening scan_from scan point_at within measured fill_measured count_unimplemented fits fill_of points_at instances groups_by entered content_at ends_with_pad all_but_last read_full read_by top_of reading record_numbers walk records_by all_records with_capacity listing last_digits digit_count_within lines digit_value is_digit digit_or0 words_of map_from catalog_from numbers_line record_lines listing_text refusal_text found
printed_so = refl
