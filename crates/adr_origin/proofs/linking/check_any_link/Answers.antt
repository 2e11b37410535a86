use Rattle.std.proofs.Common.{sym, ap, ◌∙◌}
use Rattle.std.proofs.lemmas.Result.{err_from_is_err_and}
use Rattle.adr_values.specs.declared.stamp.LinkKey.{LinkKey}
use Rattle.adr_model.specs.Store.{Mode}
use Rattle.adr_origin.specs.LinkParts.{start_refusal, write_refusal}
use Rattle.adr_origin.proofs.FirstOf.{first_of_three, second_of_three, third_of_three}
use Rattle.adr_origin.proofs.LinkInParts.{link_in_parts}
use Rattle.adr_origin.proofs.linking.check_any_link.Goals as goal

pub returns-in_err-check_start-clause-told : goal.returns-in_err-check_start-clause-told
returns-in_err-check_start-clause-told c =
    let p = err_from_is_err_and c.from_residual.result c.from_residual.ensures.1 in
    rw (p.1, p.2)
    (first_of_three _ _ _ _ (c.in_err-check_start.ensures ∙ ap (λ (m : Mode). start_refusal m c.args.ends.now.from c.args.ends.now.to) c.mode.ensures)
    ∙ sym (link_in_parts c.args.state.now c.args.ends.now.from c.args.ends.now.attr c.args.ends.now.to c.args.present))

pub returns-in_err-check_ends-clause-told : goal.returns-in_err-check_ends-clause-told
returns-in_err-check_ends-clause-told c =
    let p = err_from_is_err_and c.from_residual-in_err-check_ends.result c.from_residual-in_err-check_ends.ensures.1 in
    rw (p.1, p.2)
    (second_of_three _ _ _ _ (c.in_ok-check_start.ensures ∙ ap (λ (m : Mode). start_refusal m c.args.ends.now.from c.args.ends.now.to) c.mode.ensures) c.in_err-check_ends.ensures
    ∙ sym (link_in_parts c.args.state.now c.args.ends.now.from c.args.ends.now.attr c.args.ends.now.to c.args.present))

pub returns-clause-told : goal.returns-clause-told
returns-clause-told c =
    c.check_write.ensures.told
    ∙ (ap (λ (l : LinkKey). write_refusal c.args.state.now l c.args.present) c.requires.named
    ∙ (third_of_three _ _ _ (c.in_ok-check_start.ensures ∙ ap (λ (m : Mode). start_refusal m c.args.ends.now.from c.args.ends.now.to) c.mode.ensures) c.in_ok-check_ends.ensures
    ∙ sym (link_in_parts c.args.state.now c.args.ends.now.from c.args.ends.now.attr c.args.ends.now.to c.args.present)))
