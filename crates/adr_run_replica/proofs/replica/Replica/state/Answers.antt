use Rattle.adr_run_replica.proofs.Ups.{up_so}
use Rattle.adr_run_replica.proofs.replica.Replica.state.Goals as goal

pub returns-in-Some-clause-up : goal.returns-in-Some-clause-up
returns-in-Some-clause-up c =
    up_so _ _ _ _ _ _ c.self.inside.name c.self.inside.dsa c.self.inside.controller c.self.inside.kept c.goes_as_planned.ensures.in_order c.goes_as_planned.ensures.planned
    c.self.invariant c.args.self.now c.self.view_is c.in-Some.state.now c.in-Some.ensures.state
