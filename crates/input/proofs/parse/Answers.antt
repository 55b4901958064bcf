-- `parse`: the surveys find what the text gives, and `store_words` stores it.
use Rattle.std.proofs.Common.{◌≡◌, ◌*◌, length, take, rules}
use Rattle.input.proofs.ParsedLists.{catalog_count, map_count, catalog_stored, map_stored}
use Rattle.input.proofs.parse.Goals as goal

pub store_words-requires : goal.store_words-requires
store_words-requires c =
    let n : length (take (c.in_ok-frames.frames * 8) c.args.catalog.now) ≡ c.in_ok-frames.frames * 8 = search rules in
    rw n (catalog_count _ c.in_ok-frames.ensures.0 c.in_ok-registers.ensures)

pub store_words-requires-2 : goal.store_words-requires-2
store_words-requires-2 c =
    let n : length (take c.in_ok-registers.registers c.args.map.now) ≡ c.in_ok-registers.registers = search rules in
    rw n (map_count _ c.in_ok-frames.ensures.0 c.in_ok-registers.ensures)

pub returns-clause-catalog_after : goal.returns-clause-catalog_after
returns-clause-catalog_after c =
    let n : length (take (c.in_ok-frames.frames * 8) c.args.catalog.now) ≡ c.in_ok-frames.frames * 8 = search rules in
    rw (c.store_words.ensures, n) (catalog_stored _ c.in_ok-frames.ensures.0 c.in_ok-registers.ensures c.args.catalog.now)

pub returns-clause-map_after : goal.returns-clause-map_after
returns-clause-map_after c =
    let n : length (take c.in_ok-registers.registers c.args.map.now) ≡ c.in_ok-registers.registers = search rules in
    rw (c.store_words-2.ensures, n) (map_stored _ c.in_ok-frames.ensures.0 c.in_ok-registers.ensures c.args.map.now)
