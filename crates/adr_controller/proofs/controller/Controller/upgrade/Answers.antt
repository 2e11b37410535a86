use Rattle.std.proofs.Common.{ap, inr, refl}
use Rattle.adr_model.specs.Replica.{change_in}
use Rattle.adr_controller.specs.Able.{upgraded_in}
use Rattle.adr_controller.proofs.Calling.{unmade}
use Rattle.adr_controller.proofs.controller.Controller.upgrade.Goals as goal

pub returns-in-Err-clause-calls : goal.returns-in-Err-clause-calls
returns-in-Err-clause-calls g c =
    let law = g.met.K.Keeper in
    unmade g.K.Keeper law.leaves law.only_now c.args.self.now c.running.ensures.in_order upgraded_in c.in_ok-state.state.now c.in_ok-state.ensures.ok.0 _
    (inr (refl, ap change_in (c.upgrade.ensures.refused c.in-Err.refusal c.in-Err.is)))

pub returns-in-Ok-clause-calls : goal.returns-in-Ok-clause-calls
returns-in-Ok-clause-calls g c =
    c.conclude.ensures.calls upgraded_in
    (record { state = c.in_ok-state.state.now; in_memory = c.in_ok-state.ensures.ok.0; makes = ap change_in c.in-Ok.ensures.ok; in_order = c.running.ensures.in_order })
