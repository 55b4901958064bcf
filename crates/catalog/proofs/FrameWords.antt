-- Writing frames as words and reading words as frames are inverse to each other.
use mathlib.Core.Path.{◌≡◌, refl, sym, ap, ◌∙◌}
use mathlib.Core.Bool.{true, false}
use mathlib.Core.List.{List, [], ◌∷◌, ◌++◌}
use Prim.Native.Nat.{ℕ, zero, suc, ◌+◌, ◌*◌, ◌/◌, ◌%◌, ◌≤◌}
use native.Mathlib.Omega.{arith}
use borrow.Author.Tests.{eqb-true}
use lib.Dec.{eqb}
use lib.ListN.{length, get_or, drop, replicate, length-append, length-drop}
use lib.Seq.{drop-append_seam, drop-cons, get_or-drop}
use Rattle.lists.specs.Each.{Each}
use Rattle.lists.proofs.TestOutcomes.{by_test, both}
use Rattle.registers.specs.Registers.{all_zero}
use Rattle.catalog_frames.specs.Frames.{Frame, model_frame, group_frame, point_frame, end_frame, malformed, if_zero, frame_of, word}
use Rattle.catalog_frames.specs.Frames.{frame_at, frames_from, frames, words_of, words_of_all}
use Rattle.catalog.specs.Rules.{is_malformed}

-- A word of frame i + 1 is a word of frame i of the words after the first frame.
word_later : (ws : List ℕ) (i k : ℕ) → word ws (suc i) k ≡ word (drop 8 ws) i k
word_later ws i k =
    let e : 8 * suc i + k ≡ 8 + (8 * i + k) = omega arith in
    ap (λ (j : ℕ). get_or ws j 0) e ∙ sym (get_or-drop 8 ws (8 * i + k) 0)

-- So frame i + 1 is frame i of the words after the first frame.
frame_later : (ws : List ℕ) (i : ℕ) → frame_at ws (suc i) ≡ frame_at (drop 8 ws) i
frame_later ws i =
    let w = word_later ws i in
    rw (w 0, w 1, w 2, w 3, w 4, w 5, w 6, w 7)

-- So the frames from i + 1 on are the frames from i on of the words after the first frame.
frames_later : (ws : List ℕ) (i n : ℕ) → frames_from ws (suc i) n ≡ frames_from (drop 8 ws) i n
unfolding frames_from
frames_later ws i zero = refl
frames_later ws i (suc n) = rw (frame_later ws i, frames_later ws (suc i) n)

-- Reading the words of a frame gives the frame.
first_frame : (f : Frame) (ws : List ℕ) → frame_at (words_of f ++ ws) 0 ≡ f
unfolding frame_of
first_frame (model_frame id) ws = refl
first_frame (group_frame h) ws = refl
first_frame (point_frame p) ws = refl
first_frame end_frame ws = refl
first_frame malformed ws = refl

-- A frame has eight words.
eight_words_lem : (f : Frame) → length (words_of f) ≡ 8
eight_words_lem (model_frame id) = refl
eight_words_lem (group_frame h) = refl
eight_words_lem (point_frame p) = refl
eight_words_lem end_frame = refl
eight_words_lem malformed = refl

-- Dropping eight words drops the words of the first frame.
after_first : (f : Frame) (ws : List ℕ) → drop 8 (words_of f ++ ws) ≡ ws
after_first f ws = rw (eight_words_lem f) at (drop-append_seam (words_of f) ws)

-- n frames have 8 * n words.
pub length_words : (fs : List Frame) → length (words_of_all fs) ≡ 8 * length fs
unfolding words_of_all
length_words [] = refl
length_words (f ∷ fs) =
    let e = length_words fs in
    rw (length-append (words_of f) (words_of_all fs), eight_words_lem f) (omega arith)

-- Reading `length fs` frames from the words of `fs` gives `fs`.
frames_back : (fs : List Frame) → frames_from (words_of_all fs) 0 (length fs) ≡ fs
unfolding words_of_all frames_from
frames_back [] = refl
frames_back (f ∷ fs) =
    let ws = words_of f ++ words_of_all fs in
    rw (first_frame f (words_of_all fs), frames_later ws 0 (length fs), after_first f (words_of_all fs), frames_back fs)

-- Reading the words of frames gives the frames.
pub frames_words : (fs : List Frame) → frames (words_of_all fs) ≡ fs
frames_words fs =
    let l = length_words fs in
    let e : length (words_of_all fs) / 8 ≡ length fs = omega arith in
    rw e (frames_back fs)

-- A list of words that are all 0 is `replicate` of 0.
zeros : (ws : List ℕ) → all_zero ws ≡ true → ws ≡ replicate (length ws) 0
zeros [] e = refl
zeros (w ∷ ws) e =
    let h = both (eqb w 0) (all_zero ws) e in
    rw (eqb-true w 0 h.0, ← zeros ws h.1)

-- Unless the frame is malformed, its words are the words that its kind names, then the unnamed ones, which are 0.
named_words_lem : (named unnamed : List ℕ) (f : Frame) → words_of f ≡ named ++ replicate (length unnamed) 0
    → is_malformed (if_zero unnamed f) ≡ false → words_of (if_zero unnamed f) ≡ named ++ unnamed
named_words_lem named unnamed f e =
    by_test (λ x. is_malformed x ≡ false → words_of x ≡ named ++ unnamed) (all_zero unnamed)
    (λ z m. e ∙ ap {B = List ℕ} (λ r. named ++ r) (sym (zeros unnamed z)))
    (λ z m. cc)

-- Unless the frame of eight words is malformed, its words are these eight.
pub eight_back : (k a b c d e f g : ℕ) → is_malformed (frame_of k a b c d e f g) ≡ false
    → words_of (frame_of k a b c d e f g) ≡ k ∷ a ∷ b ∷ c ∷ d ∷ e ∷ f ∷ g ∷ []
unfolding frame_of
eight_back k a b c d e f g =
    let P : Frame → Type 0 = λ x. is_malformed x ≡ false → words_of x ≡ k ∷ a ∷ b ∷ c ∷ d ∷ e ∷ f ∷ g ∷ [] in
    let W = named_words_lem in
    let is = eqb-true k in
    by_test P (eqb k 1) (λ t. W (k ∷ a ∷ []) (b ∷ c ∷ d ∷ e ∷ f ∷ g ∷ []) (model_frame a) (rw (is 1 t))) λ n.
    by_test P (eqb k 2) (λ t. W (k ∷ a ∷ b ∷ c ∷ d ∷ []) (e ∷ f ∷ g ∷ []) (group_frame _) (rw (is 2 t))) λ n.
    by_test P (eqb k 3) (λ t m. rw (is 3 t)) λ n.
    by_test P (eqb k 4) (λ t. W (k ∷ []) (a ∷ b ∷ c ∷ d ∷ e ∷ f ∷ g ∷ []) end_frame (rw (is 4 t))) λ n m. cc

-- Unless the first frame is malformed, its words are the first eight words.
first_back : (ws : List ℕ) → 8 ≤ length ws → is_malformed (frame_at ws 0) ≡ false
    → words_of (frame_at ws 0) ++ drop 8 ws ≡ ws
first_back ws h m =
    let w : ℕ → ℕ = λ k. get_or ws k 0 in
    let e = eight_back (w 0) (w 1) (w 2) (w 3) (w 4) (w 5) (w 6) (w 7) m in
    let d : (k r : ℕ) → k + suc r ≡ 8 → w k ∷ drop (suc k) ws ≡ drop k ws = λ k r q. sym (drop-cons ws k 0 (omega arith)) in
    rw (e, d 7 0 refl, d 6 1 refl, d 5 2 refl, d 4 3 refl, d 3 4 refl, d 2 5 refl, d 1 6 refl, d 0 7 refl)

-- Reading 8 * n words as n frames and writing these gives the words, if no frame is malformed.
all_back : (n : ℕ) (ws : List ℕ) → length ws ≡ 8 * n → Each (λ f. is_malformed f ≡ false) (frames_from ws 0 n)
    → words_of_all (frames_from ws 0 n) ≡ ws
unfolding frames_from words_of_all
all_back zero [] l m = refl
all_back zero (w ∷ ws) l m = absurd (omega arith)
all_back (suc n) ws l m =
    let e = frames_later ws 0 n in
    let r = all_back n (drop 8 ws) (length-drop 8 ws ∙ omega arith) (rw e at m.1) in
    rw (e, r) (first_back ws (omega arith) m.0)

-- Reading words as frames and writing these gives the words, if all frames are whole and none is malformed.
pub words_frames : (ws : List ℕ) → length ws % 8 ≡ 0 → Each (λ f. is_malformed f ≡ false) (frames ws)
    → words_of_all (frames ws) ≡ ws
words_frames ws h = all_back (length ws / 8) ws (omega arith)
