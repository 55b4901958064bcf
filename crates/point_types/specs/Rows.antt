-- The type rows of document 01, "The value rows", and of change requests 1 and 2: one table. Everything about a type is read from its
-- row.
use Rattle.std.specs.Prelude.{◌≡◌, Bool, true, false, List, [], ◌∷◌, ◌⊎◌, ℕ, eqb, ℤ, pos, neg_ℤ}
use Rattle.std.proofs.Math.Option.{Option, none, some}
use Rattle.std.specs.Float.{Format, binary32, binary64}
use Rattle.point_types.specs.Presence.{Presence, mandatory, optional}

-- How the bits of a value are read: as signed (document 01's list: codes 1, 8, 9, 16), as unsigned, as the count of an accumulator
-- (change request 2's list: codes 3, 11, 18), which is unsigned too, or as a float of IEEE 754: binary32 (float32) or binary64
-- (float64).
pub data Kind : Type 0 where
  signed unsigned accumulator : Kind
  float : Format → Kind

-- The pattern that marks a point as unimplemented (document 01: "not given"), or none.
pub data Unimplemented : Type 0 where
  never : Unimplemented
  pattern : ℕ → Unimplemented

-- The values in range: all of them, the integers from the first to the second, or all floats but NaN. (The papers name those out of
-- range.)
pub data Range : Type 0 where
  whole : Range
  between : ℤ → ℤ → Range
  not_nan : Range

-- A type row. All types but string have one size, so their fewest and most registers are the same. `unimplemented` is that of an
-- optional point; `unimplemented_for` has that of any point.
pub record TypeRow : Type 0 where
  pub code : ℕ
  pub fewest : ℕ
  pub most : ℕ
  pub scalable : Bool
  pub kind : Kind
  pub unimplemented : Unimplemented
  pub range : Range

-- Document 01's "s": a point of the type may carry a scale factor, or may not.
abbrev with_scale : Bool
with_scale = true

abbrev no_scale : Bool
no_scale = false

-- A row on one line: code, fewest and most registers, may it carry a scale factor, kind, unimplemented, range.
abbrev pub row : ℕ → ℕ → ℕ → Bool → Kind → Unimplemented → Range → TypeRow
row c f m s k u r =
    record { code = c; fewest = f; most = m; scalable = s; kind = k; unimplemented = u; range = r }

-- The integers from 0 to n.
abbrev up_to : ℕ → Range
up_to n = between (pos 0) (pos n)

-- Document 01, "The value rows", row by row; 21 and 22: change request 1.
unfoldable pub rows : List TypeRow
rows =
    row 1 1 1 with_scale signed (pattern 0x8000) whole  -- int16
    ∷ row 2 1 1 with_scale unsigned (pattern 0xFFFF) whole  -- uint16
    ∷ row 3 1 1 with_scale accumulator (pattern 0) whole  -- acc16
    ∷ row 4 1 1 no_scale unsigned (pattern 0xFFFF) whole  -- enum16
    ∷ row 5 1 1 no_scale unsigned (pattern 0xFFFF) (up_to 0x7FFF)  -- bitfield16
    ∷ row 6 1 1 no_scale unsigned never (between (pos 0x8000) (pos 0x8000))  -- pad
    ∷ row 7 1 1 no_scale unsigned never whole  -- raw16
    ∷ row 8 1 1 no_scale signed (pattern 0x8000) (between (neg_ℤ (pos 10)) (pos 10))  -- sunssf
    ∷ row 9 2 2 with_scale signed (pattern 0x80000000) whole  -- int32
    ∷ row 10 2 2 with_scale unsigned (pattern 0xFFFFFFFF) whole  -- uint32
    ∷ row 11 2 2 with_scale accumulator (pattern 0) whole  -- acc32
    ∷ row 12 2 2 no_scale unsigned (pattern 0xFFFFFFFF) whole  -- enum32
    ∷ row 13 2 2 no_scale unsigned (pattern 0xFFFFFFFF) (up_to 0x7FFFFFFF)  -- bitfield32
    ∷ row 14 2 2 no_scale (float binary32) (pattern 0x7FC00000) not_nan  -- float32
    ∷ row 15 2 2 no_scale unsigned (pattern 0) whole  -- ipaddr
    ∷ row 16 4 4 with_scale signed (pattern 0x8000000000000000) whole  -- int64
    ∷ row 17 4 4 with_scale unsigned (pattern 0xFFFFFFFFFFFFFFFF) whole  -- uint64
    ∷ row 18 4 4 with_scale accumulator (pattern 0) (up_to 9223372036854775807)  -- acc64
    ∷ row 19 1 64 no_scale unsigned (pattern 0) whole  -- string
    ∷ row 20 8 8 no_scale unsigned (pattern 0) whole  -- ipv6addr
    ∷ row 21 4 4 no_scale unsigned (pattern 0xFFFFFFFFFFFFFFFF) (up_to 0x7FFFFFFFFFFFFFFF)  -- bitfield64
    ∷ row 22 4 4 no_scale (float binary64) (pattern 0x7FF8000000000000) not_nan  -- float64
    ∷ []

-- The first row of a list that has the type code c, or none.
unfoldable pub row_among : List TypeRow → ℕ → Option TypeRow
row_among [] c = none
row_among (r ∷ rs) c = elim (eqb c r.code) [ true ↦ some r | false ↦ row_among rs c ]

-- The row of a type code; none if the type is unknown.
abbrev pub row_of : ℕ → Option TypeRow
row_of c = row_among rows c

-- A row of the table.
abbrev pub Listed : TypeRow → Type 0
Listed r = row_of r.code ≡ some r

-- May a point of this type carry a scale factor (document 01: s)? One of an unknown type may not.
unfoldable pub may_scale : ℕ → Bool
may_scale c = elim (row_of c) [ none ↦ false | some r ↦ r.scalable ]

-- The fewest and the most registers of a point of this type; none if the type is unknown.
unfoldable pub registers_of : ℕ → Option (ℕ × ℕ)
registers_of c = elim (row_of c) [ none ↦ none | some r ↦ some (r.fewest, r.most) ]

-- ---- Mandatory accumulators (change request 2)

-- Is it the kind of an accumulator?
abbrev pub is_accumulator : Kind → Bool
is_accumulator signed = false
is_accumulator unsigned = false
is_accumulator accumulator = true
is_accumulator (float f) = false

-- The unimplemented pattern of a point, by its type's row and its presence. A mandatory accumulator has none: its 0 is a value.
abbrev pub unimplemented_for : TypeRow → Presence → Unimplemented
unimplemented_for row optional = row.unimplemented
unimplemented_for row mandatory = elim (is_accumulator row.kind) [ true ↦ never | false ↦ row.unimplemented ]

-- The codes of the accumulators, as change request 2 lists them: acc16, acc32, acc64. (`accumulator_codes` in proofs/Table.antt
-- proves that their rows, and no others, have that kind.)
abbrev pub AccumulatorCode : ℕ → Type 0
AccumulatorCode code = (code ≡ 3) ⊎ ((code ≡ 11) ⊎ (code ≡ 18))
