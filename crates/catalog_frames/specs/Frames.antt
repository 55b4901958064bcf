-- The frames of a catalog (document 01, "The book"): eight words each, and the names of the words.
use Rattle.std.specs.Prelude.{true, false, List, [], ◌∷◌, ◌++◌, ℕ, zero, suc, ◌+◌, ◌*◌, ◌/◌, eqb, length, get_or}
use Rattle.registers.specs.Registers.{all_zero}

-- Words 1 to 7 of a point frame. `scale` is the fixed scale factor (16-bit two's complement) or the number of the point that
-- gives it.
pub record Point : Type 0 where
  pub number : ℕ
  pub type_code : ℕ
  pub size : ℕ
  pub scale_kind : ℕ
  pub scale : ℕ
  pub mandatory : ℕ
  pub access : ℕ

-- Words 1 to 4 of a group frame. `count` is the constant count or the number of the point that gives it.
pub record Head : Type 0 where
  pub number : ℕ
  pub group_type : ℕ
  pub count_kind : ℕ
  pub count : ℕ

-- A frame by its kind. It is malformed (rule 3) if its kind is not 1 to 4, or a word that its kind does not name is not 0.
pub data Frame : Type 0 where
  model_frame : ℕ → Frame
  group_frame : Head → Frame
  point_frame : Point → Frame
  end_frame : Frame
  malformed : Frame

-- The scale kinds: no scale factor, a fixed one, the value of a point.
abbrev pub no_scale : ℕ
no_scale = 0

abbrev pub fixed_scale : ℕ
fixed_scale = 1

abbrev pub scale_by_point : ℕ
scale_by_point = 2

-- The count kinds: a constant, the value of a point, fill (repeated to fill the model's length).
abbrev pub constant_count : ℕ
constant_count = 0

abbrev pub count_by_point : ℕ
count_by_point = 1

abbrev pub fill : ℕ
fill = 2

-- The type codes that checking and listing test for (a pad, a count point, a scale factor), and the access of a count point
-- (document 01: R).
abbrev pub pad : ℕ
pad = 6

abbrev pub uint16 : ℕ
uint16 = 2

abbrev pub sunssf : ℕ
sunssf = 8

abbrev pub read_only : ℕ
read_only = 0

-- Frame `f` if the words `ws`, which its kind does not name, are all 0; else malformed.
abbrev pub if_zero : List ℕ → Frame → Frame
if_zero ws f = elim (all_zero ws) [ true ↦ f | false ↦ malformed ]

-- The frame with these eight words: its kind (1 model, 2 group, 3 point, 4 end), then words 1 to 7, called a to g.
unfoldable pub frame_of : ℕ → ℕ → ℕ → ℕ → ℕ → ℕ → ℕ → ℕ → Frame
frame_of kind a b c d e f g =
    elim (eqb kind 1) [
      | true ↦ if_zero (b ∷ c ∷ d ∷ e ∷ f ∷ g ∷ []) (model_frame a)
      | false ↦ elim (eqb kind 2) [
        | true ↦ if_zero (e ∷ f ∷ g ∷ []) (group_frame (record { number = a; group_type = b; count_kind = c; count = d }))
        | false ↦ elim (eqb kind 3) [
          | true ↦ point_frame (record { number = a; type_code = b; size = c; scale_kind = d; scale = e; mandatory = f; access = g })
          | false ↦ elim (eqb kind 4) [
            | true ↦ if_zero (a ∷ b ∷ c ∷ d ∷ e ∷ f ∷ g ∷ []) end_frame
            | false ↦ malformed
          ]
        ]
      ]
    ]

-- Word k of frame i. Past the end of the words it is 0; `frames` does not read there.
abbrev pub word : List ℕ → ℕ → ℕ → ℕ
word ws i k = get_or ws (8 * i + k) 0

-- Frame i.
abbrev pub frame_at : List ℕ → ℕ → Frame
frame_at ws i =
    frame_of (word ws i 0) (word ws i 1) (word ws i 2) (word ws i 3) (word ws i 4) (word ws i 5) (word ws i 6) (word ws i 7)

-- The n frames from frame i on.
unfoldable pub frames_from : List ℕ → ℕ → ℕ → List Frame
frames_from ws i zero = []
frames_from ws i (suc n) = frame_at ws i ∷ frames_from ws (suc i) n

-- All whole frames of the words.
abbrev pub frames : List ℕ → List Frame
frames ws = frames_from ws 0 (length ws / 8)

-- Frame i of the words, or malformed if they have no whole frame i.
abbrev pub frame_in : List ℕ → ℕ → Frame
frame_in ws i = get_or (frames ws) i malformed

-- The eight words of a frame; a malformed one is written with kind 0.
abbrev pub words_of : Frame → List ℕ
words_of (model_frame id) = 1 ∷ id ∷ 0 ∷ 0 ∷ 0 ∷ 0 ∷ 0 ∷ 0 ∷ []
words_of (group_frame h) = 2 ∷ h.number ∷ h.group_type ∷ h.count_kind ∷ h.count ∷ 0 ∷ 0 ∷ 0 ∷ []
words_of (point_frame p) = 3 ∷ p.number ∷ p.type_code ∷ p.size ∷ p.scale_kind ∷ p.scale ∷ p.mandatory ∷ p.access ∷ []
words_of end_frame = 4 ∷ 0 ∷ 0 ∷ 0 ∷ 0 ∷ 0 ∷ 0 ∷ 0 ∷ []
words_of malformed = 0 ∷ 0 ∷ 0 ∷ 0 ∷ 0 ∷ 0 ∷ 0 ∷ 0 ∷ []

-- The words of a catalog with the frames `fs`.
unfoldable pub words_of_all : List Frame → List ℕ
words_of_all [] = []
words_of_all (f ∷ fs) = words_of f ++ words_of_all fs
