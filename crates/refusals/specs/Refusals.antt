-- The numbers of the refusals (document 01; docs/FORMAT.md, "Refusals", says why each is returned).
use Rattle.std.specs.Prelude.{◌≡◌, ℕ, List, ◌++◌, codes, decimal}
use Rattle.refusals.specs.declared.Refusal.{Refusal}
use Rattle.refusals.specs.declared.Refused.{Refused}

-- The number of a refusal.
abbrev pub number : Refusal → ℕ
number Refusal.PartOfFrame = 1
number Refusal.TooManyFrames = 2
number Refusal.MalformedFrame = 3
number Refusal.FrameOutOfPlace = 4
number Refusal.TooManyLevels = 5
number Refusal.BadNumber = 6
number Refusal.BadType = 7
number Refusal.BadScale = 8
number Refusal.BadCount = 9
number Refusal.EmptyGroup = 10
number Refusal.OpenModel = 11
number Refusal.TooManyRegisters = 20
number Refusal.NoMarker = 21
number Refusal.NoHeader = 22
number Refusal.FirstModelNotCommon = 23
number Refusal.ZeroId = 24
number Refusal.BadLength = 25
number Refusal.PastTheMap = 26
number Refusal.ShortModel = 27
number Refusal.UnimplementedCount = 28
number Refusal.LengthNotSize = 29
number Refusal.ShortList = 30
number Refusal.NoSuchPoint = 31
number Refusal.ReadOnly = 32
number Refusal.OverFourRegisters = 33
number Refusal.UnimplementedPoint = 34
number Refusal.NoValueOfPoint = 35
number Refusal.NotDecodable = 40
number Refusal.NoBitfield = 41
number Refusal.NoBits = 42
number Refusal.NotScalable = 43
number Refusal.NoValue = 44
number Refusal.BadScaleFactor = 45
number Refusal.ShortBuffer = 46
number Refusal.BadLine = 50
number Refusal.NoEmptyLine = 51
number Refusal.OverCapacity = 52

-- `refused` is the refusal `refusal` at place 0.
abbrev pub PlaceZero : Refusal → Refused → Type 0
PlaceZero refusal refused = refused ≡ record { refusal = refusal; place = 0 }

-- What a refusal prints, as in `5`: its number.
abbrev pub printed : Refusal → List ℕ
printed refusal = decimal (number refusal)

-- What it prints with its place, as in `5 at 3`.
abbrev pub printed_with_place : Refused → List ℕ
printed_with_place refused = printed refused.refusal ++ codes " at " ++ decimal refused.place
