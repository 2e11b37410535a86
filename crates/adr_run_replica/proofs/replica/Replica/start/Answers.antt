use Rattle.std.proofs.Common.{◌∙◌, sym, ap, true, false, Err}
use Rattle.adr_run_replica.proofs.Begun.{BeginsTo, begins_to, faulty_as, no_ok, not_there, there_so, up_already}
use Rattle.adr_run_replica.proofs.Results.{if_ok_at, no_err, on_err}
use Rattle.adr_run_replica.proofs.replica.Replica.start.Goals.{in-Ok, in-Err-DiskFault, in-Err-DiskFault-2, in-Err-NoMemory}
use Rattle.adr_run_replica.proofs.replica.Replica.start.Goals as goal

pub returns-then-is_some-clause-started : goal.returns-then-is_some-clause-started
returns-then-is_some-clause-started c = λ w stands.
    let up = there_so _ _ c.state.result c.state.ensures.state (sym c.is_some.ensures ∙ c.if-is_some.true) in
    up_already _ _ _ _ _ _ _ _ _ _ c.self.invariant c.args.self.now c.args.past.now _ c.self.view_is up.1 c.state.ensures.in_order w stands

-- what the start came to
begins : (c : goal.Joined-started) → BeginsTo c.self.invariant c.args.self.now c.args.past.now c.start-started.result c.settle-stopped.new.controller c.settle-stopped.new.kept c.settle-stopped.new.past
begins c =
    begins_to c.self.invariant c.state.ensures.in_order c.goes_as_planned.ensures.planned c.args.past.now
    (not_there _ _ c.state.result c.state.ensures.state (sym c.is_some.ensures ∙ c.if-is_some.false))
    c.revive.ensures.plan c.revive.ensures.same c.revive.ensures.running c.revive.ensures.stays c.self.view_is c.of-ahead.ensures.past c.of-ahead.ensures.kept
    c.start-started.new.self c.start-started.result c.hindrance_of_start-how.ensures c.settle-stopped.ensures.controller c.settle-stopped.ensures.kept c.settle-stopped.ensures.past
    c.start-started.ensures.ok c.start-started.ensures.err c.start-started.ensures.damaged c.start-started.ensures.starts

pub invariant_of-self : goal.invariant_of-self
invariant_of-self c =
    (begins c).held

pub returns-clause-started : goal.returns-clause-started
returns-clause-started c =
    let b = begins c in
    elim c.match-started.branch [
      | in-Ok w ↦ if_ok_at _ _ _ w.result-is (b.passed _ w.in-Ok.is)
      | in-Err-DiskFault w ↦
          if_ok_at _ _ _ w.result-is (faulty_as _ _ _ _ _ _ _ b (w.in-Err-DiskFault.is ∙ ap Err (rw w.in-Err-DiskFault.is at w.in-Err-DiskFault.field-0-is)) c.settle-stopped.result true c.settle-stopped.ensures.stopped w.if-stopped.true)
      | in-Err-DiskFault-2 w ↦
          if_ok_at _ _ _ w.result-is (faulty_as _ _ _ _ _ _ _ b (w.in-Err-DiskFault-2.is ∙ ap Err (rw w.in-Err-DiskFault-2.is at w.in-Err-DiskFault-2.field-0-is)) c.settle-stopped.result false c.settle-stopped.ensures.stopped w.if-stopped.false)
      | in-Err-NoMemory w ↦ no_ok _ _ _ w.result-is
    ]

pub returns-clause-err : goal.returns-clause-err
returns-clause-err c =
    let b = begins c in
    elim c.match-started.branch [
      | in-Ok w ↦ no_err _ _ _ w.result-is
      | in-Err-DiskFault w ↦ no_err _ _ _ w.result-is
      | in-Err-DiskFault-2 w ↦ no_err _ _ _ w.result-is
      | in-Err-NoMemory w ↦ on_err _ c.match-started.result (b.wanting w.in-Err-NoMemory.field-0-0 (w.in-Err-NoMemory.is ∙ ap Err (rw w.in-Err-NoMemory.is at w.in-Err-NoMemory.field-0-is)))
    ]
