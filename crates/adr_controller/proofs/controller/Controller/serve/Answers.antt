use Rattle.std.proofs.Common.{◌≡◌, inl, inr, ⊎_elim, refl, sym, ◌∙◌, ap, subst, Some, None, Err}
use Rattle.std.proofs.lemmas.Result.{err_from_is_err_and}
use Rattle.std.specs.Bool.{then_some}
use Rattle.adr_model.specs.Collect.{quarantine}
use Rattle.adr_model.specs.Serve.{serve}
use Rattle.adr_controller.specs.declared.refusal.Hindrance.TheVariants.{NoMemory}
use Rattle.adr_controller.specs.declared.refusal.CallRefusal.TheVariants.{Refused}
use Rattle.adr_controller.specs.Ended.{hindrance_in}
use Rattle.adr_controller.specs.Able.{CanCommit, request_shows, change_of_served, served_in}
use Rattle.adr_law_journal.proofs.Told.{some_is}
use Rattle.adr_controller.proofs.Results.{err_same}
use Rattle.adr_controller.proofs.Calling.{as_made, hindered_so, not_running, unmade}
use Rattle.adr_controller.proofs.controller.Controller.serve.Goals as goal

pub returns-in_err-state-clause-calls : goal.returns-in_err-state-clause-calls
returns-in_err-state-clause-calls g c =
    let h = c.in_err-state.field-0.0 in
    let p = err_from_is_err_and c.from_residual.result c.from_residual.ensures.1 in
    not_running g.K.Keeper (served_in c.args.request.now c.args.now) c.args.self.now h c.in_err-state.ensures.err _ (hindered_so h c.from_residual.result p.0 p.1 p.2)

pub refuse-requires-clause-follows : goal.refuse-requires-clause-follows
refuse-requires-clause-follows g c = λ x is shows.
    let was = c.in_ok-state.ensures.ok in
    let s = c.in_ok-state.state.now in
    let refused : serve s c.args.request.now c.args.now ≡ Err c.in-Err-Refused.refusal = (c.serve.ensures.refused c.in-Err-Refused.refusal).0 (c.in-Err-Refused.is ∙ ap Err c.in-Err-Refused.field-0-is) in
    subst (λ y. CanCommit g.K.Keeper y (quarantine y)) (some_is s x (sym was.0 ∙ is))
    (c.requires.follows s (quarantine s) was.2 (ap (change_of_served s) refused ∙ ap (λ asked. then_some asked (quarantine s)) (sym c.request_shows-put_back.ensures ∙ shows)))

pub returns-in-Ok-clause-calls : goal.returns-in-Ok-clause-calls
returns-in-Ok-clause-calls g c =
    let law = g.met.K.Keeper in
    let s = c.in_ok-state.state.now in
    unmade g.K.Keeper law.leaves law.only_now c.args.self.now c.running.ensures.in_order (served_in c.args.request.now c.args.now) s c.in_ok-state.ensures.ok.0 None (inr (refl, ap (change_of_served s) (c.in-Ok.ensures.ok)))

pub returns-in-Err-NoMemory-clause-calls : goal.returns-in-Err-NoMemory-clause-calls
returns-in-Err-NoMemory-clause-calls g c =
    let law = g.met.K.Keeper in
    unmade g.K.Keeper law.leaves law.only_now c.args.self.now c.running.ensures.in_order (served_in c.args.request.now c.args.now) c.in_ok-state.state.now c.in_ok-state.ensures.ok.0 (Some NoMemory) (inl refl)

pub returns-in-Err-Refused-clause-refused : goal.returns-in-Err-Refused-clause-refused
returns-in-Err-Refused-clause-refused g c = λ x refusal is e.
    let was = c.in_ok-state.ensures.ok in
    let s = c.in_ok-state.state.now in
    let refused : serve s c.args.request.now c.args.now ≡ Err c.in-Err-Refused.refusal = (c.serve.ensures.refused c.in-Err-Refused.refusal).0 (c.in-Err-Refused.is ∙ ap Err c.in-Err-Refused.field-0-is) in
    subst (λ y. serve y c.args.request.now c.args.now ≡ Err refusal) (some_is s x (sym was.0 ∙ is))
    (refused ∙ ap Err (sym (c.refuse.ensures.refused refusal (err_same c.refuse.result _ _ refl e))))

pub returns-in-Err-Refused-clause-calls : goal.returns-in-Err-Refused-clause-calls
returns-in-Err-Refused-clause-calls g c =
    let was = c.in_ok-state.ensures.ok in
    let s = c.in_ok-state.state.now in
    let r = c.in-Err-Refused.refusal in
    let refused : serve s c.args.request.now c.args.now ≡ Err r = (c.serve.ensures.refused c.in-Err-Refused.refusal).0 (c.in-Err-Refused.is ∙ ap Err c.in-Err-Refused.field-0-is) in
    as_made g.K.Keeper (λ y. then_some c.request_shows-put_back.result (quarantine y)) (served_in c.args.request.now c.args.now) c.args.self.now c.refuse.new.self _
    (λ x is. ap (λ asked. then_some asked (quarantine x)) c.request_shows-put_back.ensures ∙ subst (λ y. then_some (request_shows r) (quarantine y) ≡ served_in c.args.request.now c.args.now y) (some_is s x (sym was.0 ∙ is)) (sym (ap (change_of_served s) refused)))
    c.refuse.ensures.calls

pub returns-in_err-state-clause-exact : goal.returns-in_err-state-clause-exact
returns-in_err-state-clause-exact g c = λ x refusal is shows refuses. absurd (⊎_elim (λ d. let no : ⊥ = cc (is, d.2) in no) (λ f. let no : ⊥ = cc (is, f.2) in no) c.in_err-state.ensures.err)

pub returns-in_err-state-clause-put_back : goal.returns-in_err-state-clause-put_back
returns-in_err-state-clause-put_back g c = λ x refusal is e shows. absurd (⊎_elim (λ d. let no : ⊥ = cc (is, d.2) in no) (λ f. let no : ⊥ = cc (is, f.2) in no) c.in_err-state.ensures.err)

pub returns-in-Ok-clause-exact : goal.returns-in-Ok-clause-exact
returns-in-Ok-clause-exact g c = λ x refusal is shows refuses.
    let s = c.in_ok-state.state.now in
    let here = subst (λ y. serve y c.args.request.now c.args.now ≡ Err refusal) (some_is x s (sym is ∙ c.in_ok-state.ensures.ok.0)) refuses in
    absurd (cc (here, c.in-Ok.ensures.ok))

pub returns-in-Err-NoMemory-clause-exact : goal.returns-in-Err-NoMemory-clause-exact
returns-in-Err-NoMemory-clause-exact g c = λ x refusal is shows refuses.
    let s = c.in_ok-state.state.now in
    let here = subst (λ y. serve y c.args.request.now c.args.now ≡ Err refusal) (some_is x s (sym is ∙ c.in_ok-state.ensures.ok.0)) refuses in
    absurd (cc ((c.serve.ensures.refused refusal).1 here, c.in-Err-NoMemory.is, c.in-Err-NoMemory.field-0-is))

pub returns-in-Err-Refused-clause-exact : goal.returns-in-Err-Refused-clause-exact
returns-in-Err-Refused-clause-exact g c = λ x refusal is shows refuses.
    let s = c.in_ok-state.state.now in
    let r = c.in-Err-Refused.refusal in
    let refused : serve s c.args.request.now c.args.now ≡ Err r = (c.serve.ensures.refused r).0 (c.in-Err-Refused.is ∙ ap Err c.in-Err-Refused.field-0-is) in
    let here = subst (λ y. serve y c.args.request.now c.args.now ≡ Err refusal) (some_is x s (sym is ∙ c.in_ok-state.ensures.ok.0)) refuses in
    let same : r ≡ refusal = err_same r refusal _ refused here in
    ap Err (c.refuse.ensures.unshown (c.request_shows-put_back.ensures ∙ ap request_shows same ∙ shows) ∙ ap Refused same)

pub returns-in-Err-Refused-clause-put_back : goal.returns-in-Err-Refused-clause-put_back
returns-in-Err-Refused-clause-put_back g c = λ x refusal is e shows.
    let r = c.in-Err-Refused.refusal in
    let told = err_same c.refuse.result (Refused refusal) _ refl e in
    let shown = c.request_shows-put_back.ensures ∙ ap request_shows (sym (c.refuse.ensures.refused refusal told)) ∙ shows in
    (c.refuse.ensures.calls.commits x (quarantine x) is (ap (λ asked. then_some asked (quarantine x)) shown)).done (ap hindrance_in told)
