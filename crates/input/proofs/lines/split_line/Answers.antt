-- `split_line`: the first LF ends the first line.
use Rattle.std.proofs.Common.{rules, ◌≡◌, ℕ, ◌+◌, ◌<◌, length, get_or, length-drop, arith}
use Rattle.std.proofs.lemmas.Slice.{between_to_end}
use Rattle.input.specs.Lines.{line_feed, lines}
use Rattle.input.proofs.FirstLines.{NoFeed, line_at, one_line}
use Rattle.input.proofs.lines.split_line.Goals as goal

pub returns-in-Some : goal.returns-in-Some
returns-in-Some c =
    let t = c.args.text.now in
    let end = c.in-Some.end in
    let inside : end < length t = search rules in
    let feed : get_or t end 0 ≡ line_feed = search rules in
    let before : (k : ℕ) → k < end → NoFeed (get_or t k 0) = search rules in
    rw (between_to_end t (end + 1) (length t) (omega arith))
    (record { same_lines = line_at t end inside feed before; shorter = omega (arith, length-drop (end + 1) t) })

pub returns-in-None-2 : goal.returns-in-None-2
unfolding lines
returns-in-None-2 c =
    let t = c.args.text.now in
    let some : 0 < length t = search rules in
    let none : (k : ℕ) → k < length t → NoFeed (get_or t k 0) = search rules in
    record { same_lines = one_line t some none; shorter = some }
