use Rattle.std.proofs.Common.{List, Some, [], fold, ◌∙◌, ap, subst}
use Rattle.std.proofs.lemmas.Result.{err_from_is_err_and}
use Rattle.adr_model.specs.Change.{with_mark}
use Rattle.adr_model.specs.Collect.{woken}
use Rattle.adr_model.specs.Store.{PartnerMark, State}
use Rattle.adr_model.specs.Update.{Identifier}
use Rattle.adr_state.specs.Refusal.{IsOverfull}
use Rattle.adr_records.specs.Woken.{with_marks}
use Rattle.adr_records.proofs.Making.{all_kept, first_state, overfull_is}
use Rattle.adr_records.proofs.waking.fill.Goals as goal

pub returns-in_err-apply-clause-full : goal.returns-in_err-apply-clause-full
returns-in_err-apply-clause-full c =
    let made = first_state c.args.contents c.args.state.now c.in_ok-change.change c.requires.empty c.requires.formed c.in_ok-change.ensures.change in
    let p = err_from_is_err_and c.from_residual-in_err-apply.result c.from_residual-in_err-apply.ensures.1 in
    rw (p.1, p.2) (λ f. overfull_is c.args.contents c.args.state.now.dsa c.args.state.now.inv c.requires.formed (subst IsOverfull made (c.in_err-apply.ensures.full f)))

pub returns-clause-ok : goal.returns-clause-ok
returns-clause-ok c =
    let made = first_state c.args.contents c.args.state.now c.in_ok-change.change c.requires.empty c.requires.formed c.in_ok-change.ensures.change in
    let marks =
    c.in_ok-of.ensures
    ∙ ap (λ (marks : List (Identifier × PartnerMark)). fold (λ ms (m : Identifier × PartnerMark). with_mark (Some m) ms) [] marks) (c.deref.ensures.value ∙ c.in_ok-change.ensures.marks) in
    c.set_marks.ensures
    ∙ ap (λ (s : State). with_marks c.in_ok-of.field-0 s) (c.in_ok-apply.ensures.ok ∙ made)
    ∙ all_kept (woken c.args.contents c.args.state.now.dsa c.args.state.now.inv) c.in_ok-of.field-0 c.requires.spelled.partners marks
