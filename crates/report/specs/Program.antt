-- Document 01, "The program": what is printed for an input.
use Rattle.std.specs.Prelude.{List, [], ◌++◌, ℕ, ◌*◌}
use Rattle.listing.specs.Listing.{Answer, refused, listed, listing, record_width, stored}
use Rattle.input.specs.Parsing as Parsing
use Rattle.report.specs.Text.{listing_text, refused_word, refusal_text}

-- The program holds 1,024 frames of a catalog, 8,192 registers of a map and 400 records.
abbrev pub frame_capacity : ℕ
frame_capacity = 1024

abbrev pub register_capacity : ℕ
register_capacity = 8192

abbrev pub record_capacity : ℕ
record_capacity = 400

-- The number of entries of its output list.
abbrev pub list_capacity : ℕ
list_capacity = record_width * record_capacity

-- The catalog and the map of an input, or its refusal (50 to 52).
abbrev pub parsed_input : List ℕ → Parsing.Input
parsed_input input = Parsing.parsed input frame_capacity register_capacity

-- The answer: the listing of the map by the catalog, or the input's refusal (its 0 headers are never printed).
abbrev pub found_in : Parsing.Input → Answer
found_in (Parsing.refused number place) = refused number place 0
found_in (Parsing.words catalog map) = listing catalog map list_capacity

-- The answer for an input.
unfoldable pub found : List ℕ → Answer
found input = found_in (parsed_input input)

-- What the output opens with: the word `refused ` for a refusal, nothing for a listing.
abbrev pub head : Answer → List ℕ
head (refused number place headers) = refused_word
head (listed rs headers) = []

-- The text of an answer, after that word.
abbrev pub text_of : Answer → List ℕ
text_of (refused number place headers) = refusal_text number place
text_of (listed rs headers) = listing_text rs headers

-- What is printed for an answer: the listing, or the refusal alone on its line.
abbrev pub printed : Answer → List ℕ
printed a = head a ++ text_of a

-- What the program prints for an input.
abbrev pub output : List ℕ → List ℕ
output input = printed (found input)

-- ---- The buffers after `read_plant`

-- The buffer of the text: the text at its start, and the later bytes unchanged.
abbrev pub stored_text : Answer → List ℕ → List ℕ
stored_text a old = Parsing.stored (text_of a) old

-- The output list: what listing stores. If the input is refused there is no listing, and the list is unchanged.
abbrev pub stored_list : Parsing.Input → List ℕ → List ℕ
stored_list (Parsing.refused number place) old = old
stored_list (Parsing.words catalog map) old = stored (listing catalog map list_capacity) old
