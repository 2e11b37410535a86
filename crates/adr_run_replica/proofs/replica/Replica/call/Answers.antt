use Rattle.std.proofs.Common.{◌∙◌, ap, refl, Err}
use Rattle.adr_model.specs.Client.{call_meant}
use Rattle.adr_model.proofs.Calling.{done_change}
use Rattle.adr_run_replica.specs.Pending.{calling}
use Rattle.adr_run_replica.proofs.Answered.{same_called}
use Rattle.adr_run_replica.proofs.Came.{CameTo, came_to}
use Rattle.adr_run_replica.proofs.Calls.{ok_called, call_undone}
use Rattle.adr_run_replica.proofs.Ending.{EndsTold, ToldMade, ToldRefused, ToldHindered}
use Rattle.adr_law_controller.proofs.Follows.{called_follows}
use Rattle.adr_run_replica.proofs.replica.Replica.call.Goals.{in-Ok, in-Err-Refused, in-Err-Hindered}
use Rattle.adr_run_replica.proofs.replica.Replica.call.Goals as goal

pub call-made-requires : goal.call-made-requires
call-made-requires c = record {
  follows = λ s ch formed makes.
      let f = called_follows c.recorded_changes_leave_logged_states.ensures c.logged_states_fit.ensures c.writes_are_recorded.ensures c.collections_are_recorded.ensures c.upgrades_are_recorded.ensures c.args.what.now c.args.now c.requires.given c.requires.typed c.ranges.now.fits s ch formed makes in
      record { follows = f.follows; fits = f.fits; formed = f.formed };
}

-- what the call came to, and how it ended
came : (c : goal.Joined-made) → CameTo c.self.invariant c.args.self.now c.args.past.now (calling (call_meant c.args.what.now c.args.now)) c.settle-stopped.new.controller c.settle-stopped.new.kept c.settle-stopped.new.past c.hindrance_in-how.result
came c =
    came_to c.self.invariant c.goes_as_planned.ensures.in_order c.goes_as_planned.ensures.planned c.args.past.now (calling (call_meant c.args.what.now c.args.now)) (same_called (call_meant c.args.what.now c.args.now))
    (λ s ch formed makes.
    let f = called_follows c.recorded_changes_leave_logged_states.ensures c.logged_states_fit.ensures c.writes_are_recorded.ensures c.collections_are_recorded.ensures c.upgrades_are_recorded.ensures c.args.what.now c.args.now c.requires.given c.requires.typed c.ranges.now.fits s ch formed makes in
    record { follows = f.follows; fits = f.fits; formed = f.formed })
    c.self.view_is c.of-ahead.ensures.past c.of-ahead.ensures.kept c.settle-stopped.ensures.controller c.settle-stopped.ensures.kept c.settle-stopped.ensures.past c.hindrance_in-how.ensures c.call-made.ensures.calls

pub invariant_of-self : goal.invariant_of-self
invariant_of-self c = (came c).held

ended : (c : goal.Joined-made) → EndsTold c.call-made.result c.match-made.result c.settle-stopped.result (λ told. told) (λ told. told)
ended c = elim c.match-made.branch [
  | in-Ok w ↦ ToldMade w.in-Ok.outcome w.in-Ok.is w.result-is
  | in-Err-Refused w ↦ ToldRefused w.in-Err-Refused.outcome (w.in-Err-Refused.is ∙ ap Err w.in-Err-Refused.field-0-is) w.in-Err-Refused.outcome w.result-is refl
  | in-Err-Hindered w ↦ ToldHindered w.in-Err-Hindered.hindrance (w.in-Err-Hindered.is ∙ ap Err w.in-Err-Hindered.field-0-is) w.hindered.result w.result-is w.hindered.ensures.ok w.hindered.ensures.err
]

pub returns-clause-called : goal.returns-clause-called
returns-clause-called c = ok_called _ _ _ _ _ _ _ _ (call_meant c.args.what.now c.args.now) (done_change c.args.self.now.safe c.args.what.now c.args.now) (came c) c.hindrance_in-how.ensures c.settle-stopped.ensures.stopped (ended c) c.call-made.ensures.told c.call-made.ensures.refused

pub returns-clause-err : goal.returns-clause-err
returns-clause-err c = call_undone _ _ _ _ _ _ _ _ (came c) c.hindrance_in-how.ensures (ended c)

pub returns-clause-given : goal.returns-clause-given
returns-clause-given c = (came c).given
