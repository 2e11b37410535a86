use Rattle.std.proofs.Common.{ap, Result, Err}
use Rattle.std.proofs.lemmas.Result.{err_from_is_err_and}
use Rattle.adr_values.specs.declared.failure.Failure.{Failure}
use Rattle.adr_call.specs.declared.refusal.CollectRefusal.{CollectRefusal}
use Rattle.adr_model.specs.Change.{Change}
use Rattle.adr_model.specs.Replica.{change_in}
use Rattle.adr_controller.specs.Able.{collected_in}
use Rattle.adr_controller.proofs.Calling.{failed_so, unmade}
use Rattle.adr_controller.proofs.controller.Controller.collect.Goals as goal

pub returns-in_err-change-clause-calls : goal.returns-in_err-change-clause-calls
returns-in_err-change-clause-calls g c =
    let law = g.met.K.Keeper in
    let s = c.in_ok-state.state.now in
    let e = c.in_err-change.field-0.0 in
    let p = err_from_is_err_and c.from_residual-in_err-change.result c.from_residual-in_err-change.ensures.1 in
    unmade g.K.Keeper law.leaves law.only_now c.args.self.now c.running.ensures.in_order (collected_in c.args.now c.args.lifetime) s c.in_ok-state.ensures.ok.0 _
    (failed_so e (collected_in c.args.now c.args.lifetime s) c.from_residual-in_err-change.result p.0 p.1 p.2
    (λ r is. ap change_in (c.in_err-change.ensures.refused r (ap (λ e. let x : Result Change (Failure CollectRefusal) = Err e in x) is))))

pub returns-clause-calls : goal.returns-clause-calls
returns-clause-calls g c =
    c.conclude.ensures.calls (collected_in c.args.now c.args.lifetime)
    (record { state = c.in_ok-state.state.now; in_memory = c.in_ok-state.ensures.ok.0; makes = ap change_in c.in_ok-change.ensures.ok; in_order = c.running.ensures.in_order })
