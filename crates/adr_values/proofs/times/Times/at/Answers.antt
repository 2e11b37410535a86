use Rattle.std.proofs.Common.{sym, []}
use Rattle.std.proofs.lemmas.List.{get_or_default}
use Rattle.adr_values.proofs.Placing.{at_place, at_gap}
use Rattle.adr_values.proofs.times.Times.at.Goals as goal

pub returns-in-Ok : goal.returns-in-Ok
returns-in-Ok c =
    let same = c.deref.ensures.value in
    let value = at_place c.self.inside.moments.items c.args.inv c.in-Ok.place (rw (← same) c.in-Ok.ensures.found) in
    let read = get_or_default c.self.inside.moments.items c.in-Ok.place c.index.result.now ([], 0) (rw (← same) c.in-Ok.ensures.found.in_range) in
    cc

pub returns-in-Err : goal.returns-in-Err
returns-in-Err c =
    let same = c.deref.ensures.value in
    rw (← c.self.view_is) (sym (at_gap c.self.inside.moments.items c.args.inv c.in-Err.field-0 c.self.invariant.rising (rw (← same) c.in-Err.ensures.gap)))
