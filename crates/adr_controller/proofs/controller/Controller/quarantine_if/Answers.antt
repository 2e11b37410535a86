use Rattle.std.proofs.Common.{sym}
use Rattle.std.specs.Bool.{then_some}
use Rattle.adr_model.specs.Collect.{quarantine}
use Rattle.adr_controller.proofs.Calling.{committed_so, quarantines}
use Rattle.adr_controller.proofs.controller.Controller.quarantine_if.Goals as goal

pub returns-clause-calls : goal.returns-clause-calls
returns-clause-calls g c =
    let s = c.in_ok-state.state.now in
    let change = c.quarantine-change.result in
    let ends = c.commit.ensures in
    committed_so g.K.Keeper (λ x. then_some c.args.put_back (quarantine x)) change c.args.self.now c.commit.new.self _
    (record { state = s; in_memory = c.in_ok-state.ensures.ok.0; makes = sym (quarantines change s c.args.put_back c.quarantine-change.ensures c.if-not-put_back.false); in_order = c.running.ensures.in_order })
    ends.down ends.failed ends.stays ends.commits
