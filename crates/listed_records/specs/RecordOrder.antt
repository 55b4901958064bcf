-- The claim on the order of records: they are in the order of their addresses, and no two overlap. Proof: `proofs/RecordOrder.antt`.
use Rattle.std.specs.Prelude.{List, ◌⊎◌, ℕ, ◌+◌, ◌≤◌}
use Rattle.layout.specs.Tiling.{Rises}
use Rattle.listing.specs.Listing.{Record}
use Rattle.listing.specs.Finding.{Target, target_of}

-- The records rise: the first begins at the address `from` or later, and each next one where the record before it ends or later.
abbrev pub RecordsRise : ℕ → List Record → Type 0
RecordsRise = Rises (λ r. r.address) (λ r. r.point.definition.size)

-- No register belongs to both targets: one ends before the other begins.
abbrev pub TargetsApart : Target → Target → Type 0
TargetsApart t s = (s.address + s.definition.size ≤ t.address) ⊎ (t.address + t.definition.size ≤ s.address)

-- The same of two records.
abbrev pub RecordsApart : Record → Record → Type 0
RecordsApart r w = TargetsApart (target_of r) (target_of w)
