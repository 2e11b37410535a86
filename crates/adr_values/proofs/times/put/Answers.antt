use Rattle.std.proofs.Common.{◌∙◌}
use Rattle.adr_values.proofs.Placing.{set_place, insert_gap}
use Rattle.adr_values.proofs.times.put.Goals as goal

pub returns-in-Ok : goal.returns-in-Ok
returns-in-Ok c = set_place c.args.moments.now.items c.args.inv c.args.now c.in-Ok.place (rw (← c.deref.ensures.value) c.in-Ok.ensures.found)

pub returns-in_ok-insert-in-Err : goal.returns-in_ok-insert-in-Err
returns-in_ok-insert-in-Err c =
    c.in_ok-insert-in-Err.ensures.items ∙ insert_gap c.args.moments.now.items c.args.inv c.args.now c.in-Err.place (rw (← c.deref.ensures.value) c.in-Err.ensures.gap)
