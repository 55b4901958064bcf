-- Internal: what the check of a catalog reads of a frame, word by word; no public contract cites this file.
use Rattle.std.specs.Prelude.{Bool, true, ◌&&◌, List, ℕ, zero, suc, eqb}
use Rattle.catalog_frames.specs.Frames.{Point, Head, word}

-- Are the n words of frame i from word k on all 0?
unfoldable pub zero_words : List ℕ → ℕ → ℕ → ℕ → Bool
zero_words ws i k zero = true
zero_words ws i k (suc n) = eqb (word ws i k) 0 && zero_words ws i (suc k) n

-- The head of group frame j, by its words.
abbrev pub head_words : List ℕ → ℕ → Head
head_words ws j =
    record { number = word ws j 1; group_type = word ws j 2; count_kind = word ws j 3; count = word ws j 4 }

-- The point of frame j, by its words.
abbrev pub point_words : List ℕ → ℕ → Point
point_words ws j =
    record {
      number = word ws j 1;
      type_code = word ws j 2;
      size = word ws j 3;
      scale_kind = word ws j 4;
      scale = word ws j 5;
      mandatory = word ws j 6;
      access = word ws j 7;
    }
