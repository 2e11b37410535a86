use Rattle.std.proofs.Common.{None}
use Rattle.adr_run_replica.proofs.Ups.{new_held, new_seen}
use Rattle.adr_run_replica.proofs.replica.Replica.on_new_disk.Goals as goal

pub invariant_of-result : goal.invariant_of-result
invariant_of-result c =
    let made = c.in-Ok.ensures.ok in
    let planned = c.goes_as_planned.ensures.planned.formats c.in_memory.result c.in-Ok.controller.keeper None c.in_memory.ensures.running c.in_memory.ensures.plan c.in-Ok.ensures.formats in
    new_held _ _ _ _ _ _ c.args.name c.dsa-dsa.result c.in-Ok.controller c.none.result c.goes_as_planned.ensures.in_order c.goes_as_planned.ensures.planned
    c.args.state c.requires.logged.dsa c.dsa-dsa.ensures made.0 made.1 made.2 planned.0 planned.1 c.none.ensures

pub returns-clause-made : goal.returns-clause-made
returns-clause-made c =
    let made = c.in-Ok.ensures.ok in
    let planned = c.goes_as_planned.ensures.planned.formats c.in_memory.result c.in-Ok.controller.keeper None c.in_memory.ensures.running c.in_memory.ensures.plan c.in-Ok.ensures.formats in
    new_seen _ _ _ _ _ _ c.args.name c.dsa-dsa.result c.in-Ok.controller c.none.result c.goes_as_planned.ensures.in_order c.goes_as_planned.ensures.planned
    c.args.state c.requires.logged.dsa c.dsa-dsa.ensures made.0 made.1 made.2 planned.0 planned.1 c.none.ensures (invariant_of-result c)
