use Rattle.std.proofs.Common.{◌≡◌, ◌∙◌, sym, ap, subst, Result, Ok, Err}
use Rattle.std.proofs.lemmas.Result.{IfOk-weaker, err_from_is_err_and}
use Rattle.adr_values.specs.declared.failure.Failure.{Failure}
use Rattle.adr_values.specs.declared.failure.Failure.TheVariants as failures
use Rattle.adr_call.specs.declared.refusal.WriteRefusal.{WriteRefusal}
use Rattle.adr_model.specs.Change.{Change}
use Rattle.adr_model.specs.Replica.{change_in}
use Rattle.adr_model.specs.Store.{State}
use Rattle.adr_model.specs.Write.{Revive, write}
use Rattle.adr_law_journal.proofs.Told.{some_is}
use Rattle.adr_controller.specs.Able.{CanCommit, revived_in}
use Rattle.adr_controller.specs.Ended.{of_failure}
use Rattle.adr_controller.specs.declared.refusal.CallRefusal.{CallRefusal}
use Rattle.adr_controller.specs.declared.refusal.CallRefusal.TheVariants.{Refused}
use Rattle.adr_controller.proofs.Results.{err_same}
use Rattle.adr_controller.proofs.Calling.{failed_so, unmade}
use Rattle.adr_controller.proofs.controller.Controller.revive.Goals as goal

-- a refusal that was handed on
refused_was : (e : Failure WriteRefusal) (refusal : WriteRefusal) → of_failure e ≡ Refused refusal → e ≡ failures.Refused refusal
refused_was (failures.Refused x) refusal is = let same : x ≡ refusal = cc is in ap (λ y. failures.Refused y) same
refused_was failures.NoMemory refusal is = absurd (cc is)

pub conclude-requires : goal.conclude-requires
conclude-requires g c = λ x is.
    let was = c.in_ok-state.ensures.ok in
    let s = c.in_ok-state.state.now in
    let of = c.requires.follows in
    subst (λ y. CanCommit g.K.Keeper y c.in_ok-change.change) (some_is s x (sym was.0 ∙ is))
    (of.2 s c.in_ok-change.change was.2 (ap change_in (c.in_ok-change.ensures.ok of.0 of.1)))

pub returns-in_err-change-clause-calls : goal.returns-in_err-change-clause-calls
returns-in_err-change-clause-calls g c = λ image of.
    let law = g.met.K.Keeper in
    let s = c.in_ok-state.state.now in
    let e = c.in_err-change.field-0.0 in
    let changes = revived_in image c.args.revival.now.guid c.args.revival.now.parent c.args.revival.now.text.now c.args.now in
    let p = err_from_is_err_and c.from_residual-in_err-change.result c.from_residual-in_err-change.ensures.1 in
    unmade g.K.Keeper law.leaves law.only_now c.args.self.now c.running.ensures.in_order changes s c.in_ok-state.ensures.ok.0 _
    (failed_so e (changes s) c.from_residual-in_err-change.result p.0 p.1 p.2
    (λ r is. ap change_in (c.in_err-change.ensures.refused image r of (ap (λ e. let x : Result Change (Failure WriteRefusal) = Err e in x) is))))

pub returns-clause-calls : goal.returns-clause-calls
returns-clause-calls g c = λ image of.
    c.conclude.ensures.calls (revived_in image c.args.revival.now.guid c.args.revival.now.parent c.args.revival.now.text.now c.args.now)
    (record { state = c.in_ok-state.state.now; in_memory = c.in_ok-state.ensures.ok.0; makes = ap change_in (c.in_ok-change.ensures.ok image of); in_order = c.running.ensures.in_order })

pub returns-in_err-change-clause-refused : goal.returns-in_err-change-clause-refused
returns-in_err-change-clause-refused g c = λ s image refusal there of is.
    let e = c.in_err-change.field-0.0 in
    let p = err_from_is_err_and c.from_residual-in_err-change.result c.from_residual-in_err-change.ensures.1 in
    let was : e ≡ failures.Refused refusal = refused_was e refusal (sym p.2 ∙ err_same p.0 (Refused refusal) c.from_residual-in_err-change.result p.1 is) in
    subst (λ (x : State). write x (Revive image c.args.revival.now.guid c.args.revival.now.parent c.args.revival.now.text.now) c.args.now ≡ Err refusal)
    (some_is c.in_ok-state.state.now s (sym c.in_ok-state.ensures.ok.0 ∙ there))
    (c.in_err-change.ensures.refused image refusal of (ap (λ e. let x : Result Change (Failure WriteRefusal) = Err e in x) was))

pub returns-clause-revived : goal.returns-clause-revived
returns-clause-revived g c =
    IfOk-weaker c.conclude.result _ _
    (λ usn told s image there of.
    let is : c.usn-usn.result ≡ usn = cc told in (
      c.in_ok-change.change,
      subst (λ (x : State). write x (Revive image c.args.revival.now.guid c.args.revival.now.parent c.args.revival.now.text.now) c.args.now ≡ Ok c.in_ok-change.change)
          (some_is c.in_ok-state.state.now s (sym c.in_ok-state.ensures.ok.0 ∙ there)) (c.in_ok-change.ensures.ok image of),
      sym is ∙ c.usn-usn.ensures,
    ))
    c.conclude.ensures.told
