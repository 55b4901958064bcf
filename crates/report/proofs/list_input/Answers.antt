-- `list_input`: the answer is that of the words that `parse` gives.
use Rattle.std.proofs.Common.{◌≡◌, length, rules}
use Rattle.std.proofs.lemmas.Result.{err_from_is_err_and}
use Rattle.listing.specs.Listing.{stored}
use Rattle.listing.proofs.ResultCases.{result_refused, result_listed}
use Rattle.report.specs.Program.{list_capacity, found}
use Rattle.report.proofs.InputCases.{same_listing, found_refused}
use Rattle.report.proofs.list_input.Goals as goal

pub returns-in_err-parsed : goal.returns-in_err-parsed
unfolding stored
returns-in_err-parsed c =
    let words : length c.args.catalog.now ≡ 8192 = search rules in
    let registers : length c.args.map.now ≡ 8192 = search rules in
    let g = c.in_err-parsed.ensures in
    let refused = found_refused c.args.input.now _ _ (rw (words, registers) at g.result_value) in
    let p = err_from_is_err_and c.from_residual.result c.from_residual.ensures.1 in
    record {
      value = rw (p.1, p.2) (0, refused);
      catalog_after = rw (words, registers) at g.catalog_after;
      map_after = rw (words, registers) at g.map_after;
      list_after = rw refused;
    }

pub returns-in_err-list : goal.returns-in_err-list
returns-in_err-list c =
    let words : length c.args.catalog.now ≡ 8192 = search rules in
    let registers : length c.args.map.now ≡ 8192 = search rules in
    let capacity : length c.args.list.now ≡ list_capacity = search rules in
    let g = c.in_ok-parsed.ensures in
    let catalog_after = rw (words, registers) at g.catalog_after in
    let map_after = rw (words, registers) at g.map_after in
    let same = same_listing c.args.input.now _ _ _ _ (rw (words, registers) at g.result_value) catalog_after map_after in
    let r = c.in_err-list.ensures in
    let p = err_from_is_err_and c.from_residual-in_err-list.result c.from_residual-in_err-list.ensures.1 in
    record {
      value = rw (p.1, p.2) (_, result_refused (found c.args.input.now) _ _ _ (rw (capacity, same) at r.result_value));
      catalog_after = catalog_after;
      map_after = map_after;
      list_after = rw (capacity, same) at r.out_after;
    }

pub returns : goal.returns
returns c =
    let words : length c.args.catalog.now ≡ 8192 = search rules in
    let registers : length c.args.map.now ≡ 8192 = search rules in
    let capacity : length c.args.list.now ≡ list_capacity = search rules in
    let g = c.in_ok-parsed.ensures in
    let catalog_after = rw (words, registers) at g.catalog_after in
    let map_after = rw (words, registers) at g.map_after in
    let same = same_listing c.args.input.now _ _ _ _ (rw (words, registers) at g.result_value) catalog_after map_after in
    let l = result_listed (found c.args.input.now) _ _ (rw (capacity, same) at c.in_ok-list.ensures.result_value) in
    record {
      value = (l.records, l.is, l.count);
      catalog_after = catalog_after;
      map_after = map_after;
      list_after = rw (capacity, same) at c.in_ok-list.ensures.out_after;
    }
