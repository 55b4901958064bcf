-- `read_plant`: the text is that of the answer for the input, and what the program writes of it is the output.
use Rattle.std.proofs.Common.{◌≡◌, ◌∙◌, length, rules, arith}
use Rattle.report.specs.Program.{found, list_capacity}
use Rattle.report.proofs.ReportCases.{refusal_made, listing_made}
use Rattle.report.proofs.InputCases.{list_stored, found_fits, written}
use Rattle.report.proofs.read_plant.Goals as goal

pub put_listing-requires-clause-record_width_in_bounds : goal.put_listing-requires-clause-record_width_in_bounds
put_listing-requires-clause-record_width_in_bounds c =
    let a = c.in-Ok.ensures.value in
    let capacity : length c.list_input.new.list ≡ list_capacity = search rules in
    omega (arith, found_fits c.args.input.now a.0 _ a.1, a.2)

pub returns-in-Ok : goal.returns-in-Ok
returns-in-Ok c =
    let answer = found c.args.input.now in
    let g = c.in-Ok.ensures in
    let p = c.put_listing.ensures in
    let made = listing_made answer _ g.value c.args.list.now g.list_after p.put p.upper_bound in
    record {
      out_after = written answer c.args.out.now _ _ made.reports made.holds;
      value = made.reports;
      result_in_bounds = made.fits;
      out_after_2 = made.holds;
      catalog_after = g.catalog_after;
      map_after = g.map_after;
      list_after = g.list_after ∙ list_stored c.args.input.now c.args.list.now;
      out_len_unchanged = made.keeps;
    }

pub returns-in-Err : goal.returns-in-Err
returns-in-Err c =
    let answer = found c.args.input.now in
    let g = c.in-Err.ensures in
    let p = c.put_refusal.ensures in
    let made = refusal_made answer _ g.value p.put p.upper_bound in
    record {
      out_after = written answer c.args.out.now _ _ made.reports made.holds;
      value = made.reports;
      result_in_bounds = made.fits;
      out_after_2 = made.holds;
      catalog_after = g.catalog_after;
      map_after = g.map_after;
      list_after = g.list_after ∙ list_stored c.args.input.now c.args.list.now;
      out_len_unchanged = made.keeps;
    }
