use Rattle.std.proofs.Common.{◌∙◌, sym, ap, Err, None}
use Rattle.std.proofs.lemmas.Result.{err_from_is_err_and}
use Rattle.adr_controller.specs.Ended.{hindrance_of}
use Rattle.adr_controller.proofs.Calling.{not_running}
use Rattle.adr_controller.proofs.controller.Controller.ask.Goals as goal

pub returns-in_err-state-clause-down : goal.returns-in_err-state-clause-down
returns-in_err-state-clause-down g c =
    let h = c.in_err-state.field-0.0 in
    let p = err_from_is_err_and c.from_residual.result c.from_residual.ensures.1 in
    (not_running g.K.Keeper (λ s. None) c.args.self.now h c.in_err-state.ensures.err _ (sym (ap hindrance_of (p.1 ∙ ap Err p.2)))).down

pub returns-in_err-state-clause-failed : goal.returns-in_err-state-clause-failed
returns-in_err-state-clause-failed g c =
    let h = c.in_err-state.field-0.0 in
    let p = err_from_is_err_and c.from_residual.result c.from_residual.ensures.1 in
    (not_running g.K.Keeper (λ s. None) c.args.self.now h c.in_err-state.ensures.err _ (sym (ap hindrance_of (p.1 ∙ ap Err p.2)))).failed
