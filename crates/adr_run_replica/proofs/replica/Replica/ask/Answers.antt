use Rattle.std.proofs.Common.{sym, subst}
use Rattle.adr_law_recorded.specs.Ranged.{IsRangedRequest}
use Rattle.adr_run_replica.proofs.Ups.{up_so, asked_so}
use Rattle.adr_run_replica.proofs.replica.Replica.ask.Goals as goal

pub returns-in-Ok-clause-asked : goal.returns-in-Ok-clause-asked
returns-in-Ok-clause-asked c = λ w.
    let asked = c.in-Ok.ensures.ok in
    let up = up_so _ _ _ _ _ _ c.self.inside.name c.self.inside.dsa c.self.inside.controller c.self.inside.kept c.goes_as_planned.ensures.in_order c.goes_as_planned.ensures.planned
    c.self.invariant c.args.self.now c.self.view_is asked.0 asked.1 in
    asked_so c.args.self.now asked.0 c.args.partner c.args.max c.args.version c.in-Ok.request up.0 up.1 asked.2 w

pub returns-in-Ok-clause-ranged : goal.returns-in-Ok-clause-ranged
returns-in-Ok-clause-ranged c =
    let asked = c.in-Ok.ensures.ok in
    let up = up_so _ _ _ _ _ _ c.self.inside.name c.self.inside.dsa c.self.inside.controller c.self.inside.kept c.goes_as_planned.ensures.in_order c.goes_as_planned.ensures.planned
    c.self.invariant c.args.self.now c.self.view_is asked.0 asked.1 in
    subst IsRangedRequest (sym asked.2) (c.requests_are_in_range.ensures asked.0 c.args.partner c.args.max c.args.version up.2 c.ranges.max.fits c.requires.version)
