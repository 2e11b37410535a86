use Rattle.std.proofs.Common.{◌∙◌, ap, Err}
use Rattle.adr_run_replica.specs.Pending.{taking}
use Rattle.adr_run_replica.proofs.Answered.{same_taken}
use Rattle.adr_run_replica.proofs.Came.{CameTo, came_to}
use Rattle.adr_call.specs.declared.outcome.Outcome.TheVariants as outcomes
use Rattle.adr_model.specs.Refused.{take_refused}
use Rattle.adr_run_replica.proofs.Calls.{ok_taken, call_undone}
use Rattle.adr_run_replica.proofs.Ending.{EndsTold, ToldMade, ToldRefused, ToldHindered}
use Rattle.adr_law_controller.proofs.Follows.{taken_follows, usn_within}
use Rattle.adr_run_replica.proofs.replica.Replica.take.Goals.{in-Ok, in-Err-Refused, in-Err-Hindered}
use Rattle.adr_run_replica.proofs.replica.Replica.take.Goals as goal

pub take-made-requires-clause-usn : goal.take-made-requires-clause-usn
take-made-requires-clause-usn c = λ s is. usn_within s (c.goes_as_planned.ensures.in_order.up s is).0.formed

pub take-made-requires-clause-follows : goal.take-made-requires-clause-follows
take-made-requires-clause-follows c = λ s ch formed makes.
    let f = taken_follows c.recorded_changes_leave_logged_states.ensures c.logged_states_fit.ensures c.taken_replies_are_recorded.ensures c.quarantines_are_recorded.ensures c.args.reply.now c.requires.spelled c.requires.ranged s ch formed makes in
    record { follows = f.follows; fits = f.fits; formed = f.formed }

-- what the call came to, and how it ended
came : (c : goal.Joined-made) → CameTo c.self.invariant c.args.self.now c.args.past.now (taking c.args.reply.now) c.settle-stopped.new.controller c.settle-stopped.new.kept c.settle-stopped.new.past c.hindrance_in-how.result
came c =
    came_to c.self.invariant c.goes_as_planned.ensures.in_order c.goes_as_planned.ensures.planned c.args.past.now (taking c.args.reply.now) (same_taken c.args.reply.now)
    (λ s ch formed makes.
    let f = taken_follows c.recorded_changes_leave_logged_states.ensures c.logged_states_fit.ensures c.taken_replies_are_recorded.ensures c.quarantines_are_recorded.ensures c.args.reply.now c.requires.spelled c.requires.ranged s ch formed makes in
    record { follows = f.follows; fits = f.fits; formed = f.formed })
    c.self.view_is c.of-ahead.ensures.past c.of-ahead.ensures.kept c.settle-stopped.ensures.controller c.settle-stopped.ensures.kept c.settle-stopped.ensures.past c.hindrance_in-how.ensures c.take-made.ensures.calls

pub invariant_of-self : goal.invariant_of-self
invariant_of-self c = (came c).held

ended : (c : goal.Joined-made) → EndsTold c.take-made.result c.match-made.result c.settle-stopped.result (λ taken. outcomes.Took taken.items taken.wrote taken.usn) take_refused
ended c = elim c.match-made.branch [
  | in-Ok w ↦ ToldMade w.in-Ok.taken w.in-Ok.is w.result-is
  | in-Err-Refused w ↦ ToldRefused w.in-Err-Refused.refusal (w.in-Err-Refused.is ∙ ap Err w.in-Err-Refused.field-0-is) w.take_refused.result w.result-is w.take_refused.ensures
  | in-Err-Hindered w ↦ ToldHindered w.in-Err-Hindered.hindrance (w.in-Err-Hindered.is ∙ ap Err w.in-Err-Hindered.field-0-is) w.hindered.result w.result-is w.hindered.ensures.ok w.hindered.ensures.err
]

pub returns-clause-taken : goal.returns-clause-taken
returns-clause-taken c = ok_taken _ _ _ _ _ _ _ _ c.args.reply.now (came c) c.hindrance_in-how.ensures c.settle-stopped.ensures.stopped (ended c) c.take-made.ensures.taken c.take-made.ensures.refused

pub returns-clause-err : goal.returns-clause-err
returns-clause-err c = call_undone _ _ _ _ _ _ _ _ (came c) c.hindrance_in-how.ensures (ended c)

pub returns-clause-given : goal.returns-clause-given
returns-clause-given c = (came c).given
