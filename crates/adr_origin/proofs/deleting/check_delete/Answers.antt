use Rattle.std.proofs.Common.{sym, ◌∙◌}
use Rattle.std.proofs.lemmas.Result.{err_from_is_err_and}
use Rattle.adr_model.specs.Write.{live_refusals}
use Rattle.adr_origin.proofs.FirstOf.{first_of_three, in_front}
use Rattle.adr_origin.proofs.deleting.check_delete.Goals as goal

pub returns-in_err-check_live-clause-told : goal.returns-in_err-check_live-clause-told
returns-in_err-check_live-clause-told c =
    let p = err_from_is_err_and c.from_residual.result c.from_residual.ensures.1 in
    rw (p.1, p.2) (first_of_three _ _ _ _ c.in_err-check_live.ensures.told ∙ sym (in_front (live_refusals c.args.state.now c.args.guid) _))
