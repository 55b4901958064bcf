-- Document 01, "Events", and change request 1 at their limits, computed. (The definition is that of the crate `event_fields`.)
use mathlib.Core.Path.{◌≡◌, refl}
use mathlib.Core.List.{List, [], ◌∷◌, map}
use Prim.Native.Nat.{ℕ}
use Rattle.registers.specs.Registers.{too_wide}
use Rattle.point_types.specs.Rows.{rows, row_among}
use Rattle.values.specs.Classes.{integer, in_range, class_of, classified}
use Rattle.event_fields.specs.Events.{set_among, EventBits, bits, refused, event_bits}

-- A type code, a raw value, and its event bits.
abbrev pub Line : Type 0
Line = ℕ × (ℕ × EventBits)

unfoldable pub lines : List Line
lines =
    (5, (0, bits 0 64))
    ∷ (5, (1, bits 1 0))
    ∷ (5, (0x7FFF, bits 15 0))
    ∷ (5, (0x4000, bits 1 14))
    ∷ (5, (0x8000, refused 42 0))
    ∷ (5, (0xFFFF, refused 42 0))
    ∷ (5, (0x10000, refused 42 0))
    ∷ (13, (0x7FFFFFFF, bits 31 0))
    ∷ (13, (0x40000000, bits 1 30))
    ∷ (13, (0x80000000, refused 42 0))
    ∷ (13, (0xFFFFFFFF, refused 42 0))
    ∷ (13, (0x100000000, refused 42 0))
    ∷ (21, (0, bits 0 64))
    ∷ (21, (0x7FFFFFFFFFFFFFFF, bits 63 0))
    ∷ (21, (0x4000000000000000, bits 1 62))
    ∷ (21, (0x8000000000000000, refused 42 0))
    ∷ (21, (0xFFFFFFFFFFFFFFFF, refused 42 0))
    ∷ (21, (0x10000000000000000, refused 42 0))
    ∷ (4, (1, refused 41 0))
    ∷ (6, (0xFFFF, refused 41 0))
    ∷ (12, (1, refused 41 0))
    ∷ (14, (1, refused 41 0))
    ∷ (0, (0, refused 41 0))
    ∷ (20, (0, refused 41 0))
    ∷ (22, (0, refused 41 0))
    ∷ (23, (0, refused 41 0))
    ∷ []

pub event_vectors : map (λ (l : Line). event_bits l.0 l.1.0) lines ≡ map (λ (l : Line). l.1.1) lines
unfolding lines rows row_among too_wide integer in_range class_of classified set_among event_bits
event_vectors = refl
