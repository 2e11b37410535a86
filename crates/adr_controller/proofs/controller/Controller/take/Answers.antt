use Rattle.std.proofs.Common.{◌≡◌, inl, ⊎_elim, refl, sym, ◌∙◌, ap, subst, Some, Ok, Err}
use Rattle.std.specs.Bool.{then_some}
use Rattle.std.proofs.lemmas.Result.{IfOk-at_ok, IfOk-weaker, err_from_is_err_and}
use Rattle.adr_model.specs.Collect.{quarantine}
use Rattle.adr_model.specs.Take.{take}
use Rattle.adr_controller.specs.declared.refusal.Hindrance.TheVariants.{NoMemory}
use Rattle.adr_cycle.specs.ReplyRefused.{refusal_before}
use Rattle.adr_controller.specs.declared.refusal.CallRefusal.TheVariants.{Refused}
use Rattle.adr_controller.specs.Ended.{hindrance_in}
use Rattle.adr_controller.specs.Able.{CanCommit, reply_shows, change_of_taken, taken_in}
use Rattle.adr_law_journal.proofs.Told.{some_is}
use Rattle.adr_controller.proofs.Results.{err_same}
use Rattle.adr_controller.proofs.Calling.{as_made, hindered_so, not_running, unmade}
use Rattle.adr_controller.proofs.controller.Controller.take.Goals as goal

pub returns-in_err-state-clause-calls : goal.returns-in_err-state-clause-calls
returns-in_err-state-clause-calls g c =
    let h = c.in_err-state.field-0.0 in
    let p = err_from_is_err_and c.from_residual.result c.from_residual.ensures.1 in
    not_running g.K.Keeper (taken_in c.args.reply.now) c.args.self.now h c.in_err-state.ensures.err _ (hindered_so h c.from_residual.result p.0 p.1 p.2)

pub conclude-requires : goal.conclude-requires
conclude-requires g c = λ x is.
    let was = c.in_ok-state.ensures.ok in
    let s = c.in_ok-state.state.now in
    subst (λ y. CanCommit g.K.Keeper y c.in-Ok.change) (some_is s x (sym was.0 ∙ is)) (c.requires.follows s c.in-Ok.change was.2 (ap (change_of_taken s) c.in-Ok.ensures.ok))

pub returns-in-Ok-clause-taken : goal.returns-in-Ok-clause-taken
returns-in-Ok-clause-taken g c =
    let s = c.in_ok-state.state.now in
    let change = c.in-Ok.change in
    IfOk-weaker c.conclude.result _ _
    (λ taken told x is. (
      change,
      subst (λ y. take y c.args.reply.now ≡ Ok change) (some_is s x (sym c.in_ok-state.ensures.ok.0 ∙ is)) c.in-Ok.ensures.ok,
      IfOk-at_ok _ told c.told_of-told.ensures,
    ))
    c.conclude.ensures.told

pub returns-in-Ok-clause-refused : goal.returns-in-Ok-clause-refused
returns-in-Ok-clause-refused g c = λ x refusal is e. absurd (c.conclude.ensures.not_refused refusal e)

pub returns-in-Ok-clause-calls : goal.returns-in-Ok-clause-calls
returns-in-Ok-clause-calls g c =
    let s = c.in_ok-state.state.now in
    c.conclude.ensures.calls (taken_in c.args.reply.now)
    (record { state = s; in_memory = c.in_ok-state.ensures.ok.0; makes = ap (change_of_taken s) c.in-Ok.ensures.ok; in_order = c.running.ensures.in_order })

pub refuse-requires-clause-follows : goal.refuse-requires-clause-follows
refuse-requires-clause-follows g c = λ x is shows.
    let was = c.in_ok-state.ensures.ok in
    let s = c.in_ok-state.state.now in
    let refused : take s c.args.reply.now ≡ Err c.in-Err-Refused.refusal = c.take.ensures.refused c.in-Err-Refused.refusal (c.in-Err-Refused.is ∙ ap Err c.in-Err-Refused.field-0-is) in
    subst (λ y. CanCommit g.K.Keeper y (quarantine y)) (some_is s x (sym was.0 ∙ is))
    (c.requires.follows s (quarantine s) was.2 (ap (change_of_taken s) refused ∙ ap (λ asked. then_some asked (quarantine s)) (sym c.reply_shows-put_back.ensures ∙ shows)))

pub returns-in-Err-NoMemory-clause-calls : goal.returns-in-Err-NoMemory-clause-calls
returns-in-Err-NoMemory-clause-calls g c =
    let law = g.met.K.Keeper in
    unmade g.K.Keeper law.leaves law.only_now c.args.self.now c.running.ensures.in_order (taken_in c.args.reply.now) c.in_ok-state.state.now c.in_ok-state.ensures.ok.0 (Some NoMemory) (inl refl)

pub returns-in-Err-Refused-clause-refused : goal.returns-in-Err-Refused-clause-refused
returns-in-Err-Refused-clause-refused g c = λ x refusal is e.
    let was = c.in_ok-state.ensures.ok in
    let s = c.in_ok-state.state.now in
    let refused : take s c.args.reply.now ≡ Err c.in-Err-Refused.refusal = c.take.ensures.refused c.in-Err-Refused.refusal (c.in-Err-Refused.is ∙ ap Err c.in-Err-Refused.field-0-is) in
    subst (λ y. take y c.args.reply.now ≡ Err refusal) (some_is s x (sym was.0 ∙ is))
    (refused ∙ ap Err (sym (c.refuse.ensures.refused refusal (err_same c.refuse.result _ _ refl e))))

pub returns-in-Err-Refused-clause-calls : goal.returns-in-Err-Refused-clause-calls
returns-in-Err-Refused-clause-calls g c =
    let was = c.in_ok-state.ensures.ok in
    let s = c.in_ok-state.state.now in
    let r = c.in-Err-Refused.refusal in
    let refused : take s c.args.reply.now ≡ Err r = c.take.ensures.refused c.in-Err-Refused.refusal (c.in-Err-Refused.is ∙ ap Err c.in-Err-Refused.field-0-is) in
    as_made g.K.Keeper (λ y. then_some c.reply_shows-put_back.result (quarantine y)) (taken_in c.args.reply.now) c.args.self.now c.refuse.new.self _
    (λ x is. ap (λ asked. then_some asked (quarantine x)) c.reply_shows-put_back.ensures ∙ subst (λ y. then_some (reply_shows r) (quarantine y) ≡ taken_in c.args.reply.now y) (some_is s x (sym was.0 ∙ is)) (sym (ap (change_of_taken s) refused)))
    c.refuse.ensures.calls

pub returns-in_err-state-clause-before : goal.returns-in_err-state-clause-before
returns-in_err-state-clause-before g c = λ x refusal is shows first. absurd (⊎_elim (λ d. let no : ⊥ = cc (is, d.2) in no) (λ f. let no : ⊥ = cc (is, f.2) in no) c.in_err-state.ensures.err)

pub returns-in_err-state-clause-put_back : goal.returns-in_err-state-clause-put_back
returns-in_err-state-clause-put_back g c = λ x refusal is e shows. absurd (⊎_elim (λ d. let no : ⊥ = cc (is, d.2) in no) (λ f. let no : ⊥ = cc (is, f.2) in no) c.in_err-state.ensures.err)

pub returns-in-Ok-clause-before : goal.returns-in-Ok-clause-before
returns-in-Ok-clause-before g c = λ x refusal is shows first.
    let s = c.in_ok-state.state.now in
    let here = subst (λ y. refusal_before y c.args.reply.now ≡ Some refusal) (some_is x s (sym is ∙ c.in_ok-state.ensures.ok.0)) first in
    absurd (cc (c.take.ensures.before refusal here, c.in-Ok.is))

pub returns-in-Ok-clause-put_back : goal.returns-in-Ok-clause-put_back
returns-in-Ok-clause-put_back g c = λ x refusal is e shows. absurd (c.conclude.ensures.not_refused refusal e)

pub returns-in-Err-NoMemory-clause-before : goal.returns-in-Err-NoMemory-clause-before
returns-in-Err-NoMemory-clause-before g c = λ x refusal is shows first.
    let s = c.in_ok-state.state.now in
    let here = subst (λ y. refusal_before y c.args.reply.now ≡ Some refusal) (some_is x s (sym is ∙ c.in_ok-state.ensures.ok.0)) first in
    absurd (cc (c.take.ensures.before refusal here, c.in-Err-NoMemory.is, c.in-Err-NoMemory.field-0-is))

pub returns-in-Err-Refused-clause-before : goal.returns-in-Err-Refused-clause-before
returns-in-Err-Refused-clause-before g c = λ x refusal is shows first.
    let s = c.in_ok-state.state.now in
    let r = c.in-Err-Refused.refusal in
    let here = subst (λ y. refusal_before y c.args.reply.now ≡ Some refusal) (some_is x s (sym is ∙ c.in_ok-state.ensures.ok.0)) first in
    let same : r ≡ refusal = cc (c.take.ensures.before refusal here, c.in-Err-Refused.is, c.in-Err-Refused.field-0-is) in
    ap Err (c.refuse.ensures.unshown (c.reply_shows-put_back.ensures ∙ ap reply_shows same ∙ shows) ∙ ap Refused same)

pub returns-in-Err-Refused-clause-put_back : goal.returns-in-Err-Refused-clause-put_back
returns-in-Err-Refused-clause-put_back g c = λ x refusal is e shows.
    let told = err_same c.refuse.result (Refused refusal) _ refl e in
    let shown = c.reply_shows-put_back.ensures ∙ ap reply_shows (sym (c.refuse.ensures.refused refusal told)) ∙ shows in
    (c.refuse.ensures.calls.commits x (quarantine x) is (ap (λ asked. then_some asked (quarantine x)) shown)).done (ap hindrance_in told)
