-- The claim that a pattern of a type has exactly one of the three classes, and which one it has.
use Rattle.std.specs.Prelude.{◌≡◌, true, false, ℕ}
use Rattle.point_types.specs.Presence.{Presence}
use Rattle.point_types.specs.Rows.{TypeRow, unimplemented_for}
use Rattle.values.specs.Classes.{is_unimplemented, in_range, Class, value, unimplemented, out_of_range, classified, of_class}

-- What a row says of a raw value of a point for each class: the unimplemented pattern comes first, then the range.
abbrev pub Tests : TypeRow → Presence → ℕ → Class → Type 0
Tests row presence raw unimplemented = is_unimplemented (unimplemented_for row presence) raw ≡ true
Tests row presence raw out_of_range = (is_unimplemented (unimplemented_for row presence) raw ≡ false) × (in_range row raw ≡ false)
Tests row presence raw value = (is_unimplemented (unimplemented_for row presence) raw ≡ false) × (in_range row raw ≡ true)

-- The raw value has one class under a type code and a presence: the only one whose tests by the code's row hold.
pub record OneClass (code : ℕ) (presence : Presence) (raw : ℕ) (row : TypeRow) : Type 0 where
  pub class : Class
  pub is : classified code presence raw ≡ of_class class
  pub tests : Tests row presence raw class
  pub only : (other : Class) → Tests row presence raw other → other ≡ class
