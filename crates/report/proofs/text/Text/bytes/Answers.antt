-- `bytes`: the part of the buffer that the bytes replace.
use Rattle.std.proofs.Common.{rules, refl, sym, ◌≡◌, ◌+◌, ◌-◌, length, append_assoc, arith}
use lib.Seq.{sets-eq, drop-drop}
use Rattle.display.proofs.AppendedTexts.{appended}
use Rattle.report.proofs.text.Text.bytes.Goals as goal

pub returns : goal.returns
returns c =
    let out = c.args.self.now.out.now in
    let at = c.args.self.now.length in
    let bytes = c.args.bytes.now in
    let count : at + length bytes - at ≡ length bytes = omega arith in
    let replaced = sym (sets-eq bytes out at c.requires) in
    appended refl (record { stored = rw (c.copy_from_slice.ensures.after, count, drop-drop (length bytes) at out, ← append_assoc) replaced; ends = search rules })
