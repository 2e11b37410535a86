use Rattle.std.proofs.Common.{sym, []}
use Rattle.std.proofs.lemmas.List.{get_or_default}
use Rattle.adr_values.proofs.Placing.{at_place, at_gap}
use Rattle.adr_values.proofs.vector.Vector.at.Goals as goal

pub returns-in-Ok : goal.returns-in-Ok
returns-in-Ok c =
    let value = at_place c.args.self.now c.args.inv c.in-Ok.place c.in-Ok.ensures.found in
    let read = get_or_default c.args.self.now c.in-Ok.place c.index.result.now ([], 0) c.in-Ok.ensures.found.in_range in
    cc

pub returns-in-Err : goal.returns-in-Err
returns-in-Err c = sym (at_gap c.args.self.now c.args.inv c.in-Err.field-0 c.search.ensures.vector.rising c.in-Err.ensures.gap)
