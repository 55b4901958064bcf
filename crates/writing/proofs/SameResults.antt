-- The result determines what `write` returns: no two refusals have the same number.
use mathlib.Core.Path.{◌≡◌, refl, sym, ap, ◌∙◌}
use mathlib.Core.List.{List, [], ◌∷◌}
use mathlib.Core.Option.{Option, some}
use Prim.Native.Nat.{ℕ}
use lib.Dec.{eqb}
use Rattle.std.specs.Prelude.{Ok, Err}
use Rattle.lists.specs.Tests.{first_with}
use Rattle.lists.proofs.TestOutcomes.{impossible}
use Rattle.refusals.specs.Refusals.{number}
use Rattle.refusals.specs.declared.Refusal.{Refusal}
use Rattle.writing.specs.CodeTypes.{Written, to_spec_written}

-- All refusals.
abbrev refusals : List Refusal
refusals =
    Refusal.PartOfFrame ∷ Refusal.TooManyFrames ∷ Refusal.MalformedFrame ∷ Refusal.FrameOutOfPlace ∷ Refusal.TooManyLevels ∷ Refusal.BadNumber
    ∷ Refusal.BadType ∷ Refusal.BadScale ∷ Refusal.BadCount ∷ Refusal.EmptyGroup ∷ Refusal.OpenModel ∷ Refusal.TooManyRegisters
    ∷ Refusal.NoMarker ∷ Refusal.NoHeader ∷ Refusal.FirstModelNotCommon ∷ Refusal.ZeroId ∷ Refusal.BadLength ∷ Refusal.PastTheMap
    ∷ Refusal.ShortModel ∷ Refusal.UnimplementedCount ∷ Refusal.LengthNotSize ∷ Refusal.ShortList ∷ Refusal.NoSuchPoint ∷ Refusal.ReadOnly
    ∷ Refusal.OverFourRegisters ∷ Refusal.UnimplementedPoint ∷ Refusal.NoValueOfPoint ∷ Refusal.NotDecodable ∷ Refusal.NoBitfield ∷ Refusal.NoBits
    ∷ Refusal.NotScalable ∷ Refusal.NoValue ∷ Refusal.BadScaleFactor ∷ Refusal.ShortBuffer ∷ Refusal.BadLine ∷ Refusal.NoEmptyLine
    ∷ Refusal.OverCapacity
    ∷ []

-- The first of them with this number.
abbrev numbered : ℕ → Option Refusal
numbered n = first_with (λ r. eqb (number r) n) refusals

-- For the number of a refusal it is that refusal,
numbered_own : (r : Refusal) → numbered (number r) ≡ some r
unfolding first_with
numbered_own Refusal.PartOfFrame = refl
numbered_own Refusal.TooManyFrames = refl
numbered_own Refusal.MalformedFrame = refl
numbered_own Refusal.FrameOutOfPlace = refl
numbered_own Refusal.TooManyLevels = refl
numbered_own Refusal.BadNumber = refl
numbered_own Refusal.BadType = refl
numbered_own Refusal.BadScale = refl
numbered_own Refusal.BadCount = refl
numbered_own Refusal.EmptyGroup = refl
numbered_own Refusal.OpenModel = refl
numbered_own Refusal.TooManyRegisters = refl
numbered_own Refusal.NoMarker = refl
numbered_own Refusal.NoHeader = refl
numbered_own Refusal.FirstModelNotCommon = refl
numbered_own Refusal.ZeroId = refl
numbered_own Refusal.BadLength = refl
numbered_own Refusal.PastTheMap = refl
numbered_own Refusal.ShortModel = refl
numbered_own Refusal.UnimplementedCount = refl
numbered_own Refusal.LengthNotSize = refl
numbered_own Refusal.ShortList = refl
numbered_own Refusal.NoSuchPoint = refl
numbered_own Refusal.ReadOnly = refl
numbered_own Refusal.OverFourRegisters = refl
numbered_own Refusal.UnimplementedPoint = refl
numbered_own Refusal.NoValueOfPoint = refl
numbered_own Refusal.NotDecodable = refl
numbered_own Refusal.NoBitfield = refl
numbered_own Refusal.NoBits = refl
numbered_own Refusal.NotScalable = refl
numbered_own Refusal.NoValue = refl
numbered_own Refusal.BadScaleFactor = refl
numbered_own Refusal.ShortBuffer = refl
numbered_own Refusal.BadLine = refl
numbered_own Refusal.NoEmptyLine = refl
numbered_own Refusal.OverCapacity = refl

-- so no two refusals have the same number,
same_refusal : (r s : Refusal) → number r ≡ number s → r ≡ s
same_refusal r s e = let a = sym (numbered_own r) ∙ ap numbered e ∙ numbered_own s in cc

-- and different values that `write` returns are different results.
pub same_returned : (x y : Written) → to_spec_written x ≡ to_spec_written y → x ≡ y
same_returned (Ok a) (Ok b) e = refl
same_returned (Ok a) (Err r) e = impossible (cc)
same_returned (Err r) (Ok a) e = impossible (cc)
same_returned (Err r) (Err s) e =
    let n : number r.refusal ≡ number s.refusal = cc in
    let same = same_refusal r.refusal s.refusal n in
    let at : r.place ≡ s.place = cc in
    λ i. Err (record { refusal = same i; place = at i })
