use Rattle.std.proofs.Common.{sym, ap, ◌∙◌}
use Rattle.std.proofs.lemmas.Result.{err_from_is_err_and}
use Rattle.adr_values.specs.declared.stamp.Oid.{Oid}
use Rattle.adr_origin.specs.LiveParts.{rows_refusal}
use Rattle.adr_origin.proofs.InLiveParts.{first_told, modify_in_parts, second_told}
use Rattle.adr_origin.proofs.modifying.check_modify.Goals as goal

pub returns-in_err-check_given-clause-told : goal.returns-in_err-check_given-clause-told
returns-in_err-check_given-clause-told c =
    let p = err_from_is_err_and c.from_residual.result c.from_residual.ensures.1 in
    rw (p.1, p.2) (first_told _ _ _ c.in_err-check_given.ensures ∙ sym (modify_in_parts c.args.state.now c.args.guid c.args.values.now))

pub returns-clause-told : goal.returns-clause-told
returns-clause-told c =
    c.check_rows.ensures.told
    ∙ (ap (λ (o : Oid). rows_refusal c.args.state.now o c.args.values.now) c.object_of.ensures
    ∙ (second_told _ _ c.in_ok-check_given.ensures ∙ sym (modify_in_parts c.args.state.now c.args.guid c.args.values.now)))
