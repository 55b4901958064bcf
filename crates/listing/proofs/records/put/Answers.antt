-- `listing::records::put` meets its contract: the numbers stand in place of the part that is written.
use Rattle.std.proofs.Common.{refl, sym, ap, ◌∙◌, ◌+◌, ◌++◌, length, take, drop, arith}
use Rattle.std.proofs.Math.Seq.{take_all}
use Rattle.std.proofs.lemmas.List.Edits.{sets-eq}
use Rattle.std.proofs.lemmas.Slice.{put_mid-paste}
use Rattle.listing.proofs.records.put.Goals as goal

pub returns : goal.returns
returns c =
    let out = c.args.out.now in
    let at = c.args.at in
    let ns = c.args.numbers.now in
    put_mid-paste at _ out _ ns (length ns) c.copy_from_slice.ensures.after (omega arith) refl
    ∙ ap (λ part. take at out ++ part ++ drop (at + length ns) out) (take_all (length ns) ns (omega arith))
    ∙ sym (sets-eq ns out at c.requires)
