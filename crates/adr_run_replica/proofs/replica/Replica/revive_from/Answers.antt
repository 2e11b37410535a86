use Rattle.std.proofs.Common.{◌∙◌, ap, sym, Result, Err}
use Rattle.std.proofs.lemmas.Result.{IfOk-weaker}
use Rattle.adr_call.specs.declared.outcome.Outcome.TheVariants as outcomes
use Rattle.adr_call.specs.declared.refusal.WriteRefusal.{WriteRefusal}
use Rattle.adr_model.specs.Change.{Change}
use Rattle.adr_model.specs.Client.{written}
use Rattle.adr_model.specs.Refused.{write_refused}
use Rattle.adr_model.specs.Replica.{Call, ToWrite}
use Rattle.adr_model.specs.Write.{Write, Revive}
use Rattle.adr_law_controller.proofs.Follows.{usn_within, written_follows}
use Rattle.adr_run_replica.specs.Pending.{calling}
use Rattle.adr_run_replica.proofs.Answered.{same_called, write_done}
use Rattle.adr_run_replica.proofs.Came.{CameTo, came_to}
use Rattle.adr_run_replica.proofs.Calls.{ok_called, call_undone}
use Rattle.adr_run_replica.proofs.Ending.{EndsTold, ToldMade, ToldRefused, ToldHindered}
use Rattle.adr_run_replica.proofs.replica.Replica.revive_from.Goals.{in-Ok, in-Err-Refused, in-Err-Hindered}
use Rattle.adr_run_replica.proofs.replica.Replica.revive_from.Goals as goal

pub revive-made-requires-clause-usn : goal.revive-made-requires-clause-usn
revive-made-requires-clause-usn c = λ s is. usn_within s (c.goes_as_planned.ensures.in_order.up s is).0.formed

pub revive-made-requires-clause-follows : goal.revive-made-requires-clause-follows
revive-made-requires-clause-follows c = (
  c.args.image.now,
  c.requires.archive,
  λ s ch formed makes.
      let f = written_follows c.recorded_changes_leave_logged_states.ensures c.logged_states_fit.ensures c.writes_are_recorded.ensures
      (Revive c.args.image.now c.args.revival.now.guid c.args.revival.now.parent c.args.revival.now.text.now) c.args.now
      c.bytes-whole.ensures.formed (c.bytes-whole.ensures.spelled, c.requires.guid, c.requires.parent, c.requires.text) c.ranges.now.fits s ch formed makes in
      record { follows = f.follows; fits = f.fits; formed = f.formed },
)

-- the write, what the call came to, and how it ended
abbrev what : (c : goal.Joined-made) → Write
what c = Revive c.args.image.now c.args.revival.now.guid c.args.revival.now.parent c.args.revival.now.text.now

came : (c : goal.Joined-made) → CameTo c.self.invariant c.args.self.now c.args.past.now (calling (ToWrite (what c) c.args.now)) c.settle-stopped.new.controller c.settle-stopped.new.kept c.settle-stopped.new.past c.hindrance_in-how.result
came c =
    came_to c.self.invariant c.goes_as_planned.ensures.in_order c.goes_as_planned.ensures.planned c.args.past.now (calling (ToWrite (what c) c.args.now)) (same_called (ToWrite (what c) c.args.now))
    (λ s ch formed makes.
    let f = written_follows c.recorded_changes_leave_logged_states.ensures c.logged_states_fit.ensures c.writes_are_recorded.ensures (what c) c.args.now
    c.bytes-whole.ensures.formed (c.bytes-whole.ensures.spelled, c.requires.guid, c.requires.parent, c.requires.text) c.ranges.now.fits s ch formed makes in
    record { follows = f.follows; fits = f.fits; formed = f.formed })
    c.self.view_is c.of-ahead.ensures.past c.of-ahead.ensures.kept c.settle-stopped.ensures.controller c.settle-stopped.ensures.kept c.settle-stopped.ensures.past c.hindrance_in-how.ensures
    (c.revive-made.ensures.calls c.args.image.now c.requires.archive)

pub invariant_of-self : goal.invariant_of-self
invariant_of-self c = (came c).held

ended : (c : goal.Joined-made) → EndsTold c.revive-made.result c.match-made.result c.settle-stopped.result outcomes.Usn write_refused
ended c = elim c.match-made.branch [
  | in-Ok w ↦ ToldMade w.in-Ok.usn w.in-Ok.is w.result-is
  | in-Err-Refused w ↦ ToldRefused w.in-Err-Refused.refusal (w.in-Err-Refused.is ∙ ap Err w.in-Err-Refused.field-0-is) w.write_refused.result w.result-is w.write_refused.ensures
  | in-Err-Hindered w ↦ ToldHindered w.in-Err-Hindered.hindrance (w.in-Err-Hindered.is ∙ ap Err w.in-Err-Hindered.field-0-is) w.hindered.result w.result-is w.hindered.ensures.ok w.hindered.ensures.err
]

pub returns-clause-revived : goal.returns-clause-revived
returns-clause-revived c =
    let of = c.requires.archive in
    ok_called _ _ _ _ _ _ _ _ (ToWrite (what c) c.args.now) (write_done c.args.self.now.safe (what c) c.args.now) (came c) c.hindrance_in-how.ensures c.settle-stopped.ensures.stopped (ended c)
    (IfOk-weaker c.revive-made.result _ _
    (λ usn made s there. let x = made s c.args.image.now there of in ap outcomes.Usn x.2 ∙ ap (λ (t : Result Change WriteRefusal). (written t).0) (sym x.1))
    c.revive-made.ensures.revived)
    (λ s refusal there is. ap (λ (t : Result Change WriteRefusal). (written t).0) (sym (c.revive-made.ensures.refused s c.args.image.now refusal there of is)))

pub returns-clause-err : goal.returns-clause-err
returns-clause-err c = call_undone _ _ _ _ _ _ _ _ (came c) c.hindrance_in-how.ensures (ended c)

pub returns-clause-given : goal.returns-clause-given
returns-clause-given c = (came c).given
