use Rattle.std.proofs.Common.{◌∙◌, ap, Err}
use Rattle.adr_run_replica.specs.Pending.{serving}
use Rattle.adr_run_replica.proofs.Answered.{same_served}
use Rattle.adr_run_replica.proofs.Came.{CameTo, came_to}
use Rattle.adr_run_replica.proofs.Calls.{ok_served, served_spelled, serve_undone}
use Rattle.adr_run_replica.proofs.Ending.{EndsSent, SentMade, SentRefused, SentHindered}
use Rattle.adr_law_controller.proofs.Follows.{served_follows}
use Rattle.adr_run_replica.proofs.replica.Replica.answer.Goals.{in-Ok, in-Err-Refused, in-Err-Hindered}
use Rattle.adr_run_replica.proofs.replica.Replica.answer.Goals as goal

pub serve-made-requires : goal.serve-made-requires
serve-made-requires c = record {
  follows = λ s ch formed makes.
      let f = served_follows c.recorded_changes_leave_logged_states.ensures c.logged_states_fit.ensures c.quarantines_are_recorded.ensures c.args.request.now c.args.now s ch formed makes in
      record { follows = f.follows; fits = f.fits; formed = f.formed };
}

-- what the call came to, and how it ended
came : (c : goal.Joined-made) → CameTo c.self.invariant c.args.self.now c.args.past.now (serving c.args.request.now) c.settle-stopped.new.controller c.settle-stopped.new.kept c.settle-stopped.new.past c.hindrance_in-how.result
came c =
    came_to c.self.invariant c.goes_as_planned.ensures.in_order c.goes_as_planned.ensures.planned c.args.past.now (serving c.args.request.now) (same_served c.args.request.now c.args.now)
    (λ s ch formed makes.
    let f = served_follows c.recorded_changes_leave_logged_states.ensures c.logged_states_fit.ensures c.quarantines_are_recorded.ensures c.args.request.now c.args.now s ch formed makes in
    record { follows = f.follows; fits = f.fits; formed = f.formed })
    c.self.view_is c.of-ahead.ensures.past c.of-ahead.ensures.kept c.settle-stopped.ensures.controller c.settle-stopped.ensures.kept c.settle-stopped.ensures.past c.hindrance_in-how.ensures c.serve-made.ensures.calls

pub invariant_of-self : goal.invariant_of-self
invariant_of-self c = (came c).held

ended : (c : goal.Joined-made) → EndsSent c.serve-made.result c.match-made.result c.settle-stopped.result
ended c = elim c.match-made.branch [
  | in-Ok w ↦ SentMade w.in-Ok.reply w.in-Ok.is w.sent.result w.result-is w.sent.ensures
  | in-Err-Refused w ↦ SentRefused w.in-Err-Refused.refusal (w.in-Err-Refused.is ∙ ap Err w.in-Err-Refused.field-0-is) w.serve_refused.result w.result-is w.serve_refused.ensures
  | in-Err-Hindered w ↦ SentHindered w.in-Err-Hindered.hindrance (w.in-Err-Hindered.is ∙ ap Err w.in-Err-Hindered.field-0-is) w.hindered.result (w.result-is ∙ w.unsent.ensures) w.hindered.ensures.ok w.hindered.ensures.err
]

pub returns-clause-served : goal.returns-clause-served
returns-clause-served c =
    ok_served _ _ _ _ _ _ _ _ c.args.request.now c.args.now (came c) c.hindrance_in-how.ensures (ended c) c.serve-made.ensures.served c.settle-stopped.ensures.stopped c.serve-made.ensures.refused

pub returns-clause-spelled : goal.returns-clause-spelled
returns-clause-spelled c =
    let s = c.args.self.now.safe in
    served_spelled _ _ _ _ _ _ _ _ c.args.request.now c.args.now (came c) c.hindrance_in-how.ensures (ended c) c.serve-made.ensures.served _
    (λ reply there is. c.replies_are_in_range.ensures s c.args.request.now reply c.args.now (c.goes_as_planned.ensures.in_order.up s there).0.formed c.requires c.ranges.now.fits is)

pub returns-clause-err : goal.returns-clause-err
returns-clause-err c = serve_undone _ _ _ _ _ _ _ _ c.args.request.now c.args.now (came c) c.hindrance_in-how.ensures (ended c) c.serve-made.ensures.served

pub returns-clause-given : goal.returns-clause-given
returns-clause-given c = (came c).given
