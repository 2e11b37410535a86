use Rattle.std.proofs.Common.{◌≡◌, ◌∙◌, sym, ap, subst, ℕ, Option, Some, Result, Err}
use Rattle.std.proofs.lemmas.Result.{IfOk-weaker}
use Rattle.std.specs.Prelude.{IfOk}
use Rattle.adr_call.specs.declared.call.Call.{Call as Asked}
use Rattle.adr_call.specs.declared.call.Call.TheVariants as calls
use Rattle.adr_call.specs.declared.outcome.Outcome.{Outcome}
use Rattle.adr_call.specs.declared.outcome.Outcome.TheVariants as outcomes
use Rattle.adr_call.specs.declared.refusal.CollectRefusal.{CollectRefusal}
use Rattle.adr_call.specs.declared.refusal.UpgradeRefusal.{UpgradeRefusal}
use Rattle.adr_call.specs.declared.refusal.WriteRefusal.{WriteRefusal}
use Rattle.adr_model.specs.Change.{Change}
use Rattle.adr_model.specs.Client.{call_meant, changed_over, collected, done, written}
use Rattle.adr_model.specs.Refused.{collect_refused, upgrade_refused, write_refused}
use Rattle.adr_model.specs.Store.{State}
use Rattle.adr_journal.specs.declared.keeper.Keeper.{Ghosts}
use Rattle.adr_controller.specs.Able.{AllFollow, called_in}
use Rattle.adr_controller.specs.Did.{Calls}
use Rattle.adr_controller.specs.Ended.{as_told, call_hindrance}
use Rattle.adr_controller.specs.Running.{Running}
use Rattle.adr_controller.specs.declared.refusal.CallRefusal.{CallRefusal}
use Rattle.adr_controller.specs.declared.refusal.CallRefusal.TheVariants.{Refused}
use Rattle.adr_controller.specs.declared.refusal.Hindrance.{Hindrance}
use Rattle.adr_controller.proofs.Telling.{refused_so, same_hindrance, told_so}
use Rattle.adr_controller.proofs.controller.Controller.call.Goals as goal

-- what was asked for is this, and it is told so
module _ {K T R : Type 0} (k : Ghosts K) (what one : Asked) (now : ℕ) (old new : Running K) (is : what ≡ one) (ok : T → Outcome) (refused : R → Outcome) (made : Result T (CallRefusal R))
    (told : Result Outcome (CallRefusal Outcome)) (so : told ≡ as_told ok refused made) where
  abbrev Says : Asked → Outcome → Type 0
  Says asked outcome = (s : State) → old.state ≡ Some s → outcome ≡ (done s (call_meant asked now)).0

  module _ (tells : IfOk made (λ x. Says one (ok x))) (refuses : (s : State) (refusal : R) → old.state ≡ Some s → made ≡ Err (Refused refusal) → refused refusal ≡ (done s (call_meant one now)).0) where
    says : IfOk told (Says what)
    says = subst (λ (asked : Asked). IfOk told (Says asked)) (sym is)
        (subst (λ (r : Result Outcome (CallRefusal Outcome)). IfOk r (Says one)) (sym so) (told_so ok refused made old.state (λ s. (done s (call_meant one now)).0) tells refuses))

    refuses_so : (s : State) (outcome : Outcome) → old.state ≡ Some s → told ≡ Err (Refused outcome) → outcome ≡ (done s (call_meant what now)).0
    refuses_so s outcome there was = subst (λ (asked : Asked). outcome ≡ (done s (call_meant asked now)).0) (sym is)
        (refused_so ok refused made old.state (λ s. (done s (call_meant one now)).0) tells refuses s outcome there (sym so ∙ was))

  called : Calls k (called_in one now) old new (call_hindrance made) → Calls k (called_in what now) old new (call_hindrance told)
  called does = subst (λ (asked : Asked). Calls k (called_in asked now) old new (call_hindrance told)) (sym is)
      (subst (λ (how : Option Hindrance). Calls k (called_in one now) old new how) (same_hindrance ok refused made ∙ ap call_hindrance (sym so)) does)

-- ---- a write

pub write-requires : goal.write-requires
write-requires g c = record { follows = subst (λ (asked : Asked). AllFollow g.K.Keeper (called_in asked c.args.now)) c.in-Write.is c.requires.follows }

pub returns-in-Write-clause-told : goal.returns-in-Write-clause-told
returns-in-Write-clause-told g c =
    says g.K.Keeper c.args.what.now (calls.Write c.in-Write.what) c.args.now c.args.self.now c.write.new.self c.in-Write.is outcomes.Usn write_refused c.write.result c.written.result c.written.ensures
    (IfOk-weaker c.write.result _ _ (λ usn has s there. let x = has s there in ap outcomes.Usn x.2 ∙ ap (λ (t : Result Change WriteRefusal). (written t).0) (sym x.1)) c.write.ensures.written)
    (λ s refusal there was. ap (λ (t : Result Change WriteRefusal). (written t).0) (sym (c.write.ensures.refused s refusal there was)))

pub returns-in-Write-clause-refused : goal.returns-in-Write-clause-refused
returns-in-Write-clause-refused g c =
    refuses_so g.K.Keeper c.args.what.now (calls.Write c.in-Write.what) c.args.now c.args.self.now c.write.new.self c.in-Write.is outcomes.Usn write_refused c.write.result c.written.result c.written.ensures
    (IfOk-weaker c.write.result _ _ (λ usn has s there. let x = has s there in ap outcomes.Usn x.2 ∙ ap (λ (t : Result Change WriteRefusal). (written t).0) (sym x.1)) c.write.ensures.written)
    (λ s refusal there was. ap (λ (t : Result Change WriteRefusal). (written t).0) (sym (c.write.ensures.refused s refusal there was)))

pub returns-in-Write-clause-calls : goal.returns-in-Write-clause-calls
returns-in-Write-clause-calls g c =
    called g.K.Keeper c.args.what.now (calls.Write c.in-Write.what) c.args.now c.args.self.now c.write.new.self c.in-Write.is outcomes.Usn write_refused c.write.result c.written.result c.written.ensures c.write.ensures.calls

-- ---- a collection

pub collect-requires : goal.collect-requires
collect-requires g c = record { follows = subst (λ (asked : Asked). AllFollow g.K.Keeper (called_in asked c.args.now)) c.in-Collect.is c.requires.follows }

pub returns-in-Collect-clause-told : goal.returns-in-Collect-clause-told
returns-in-Collect-clause-told g c =
    says g.K.Keeper c.args.what.now (calls.Collect c.in-Collect.lifetime) c.args.now c.args.self.now c.collect.new.self c.in-Collect.is outcomes.Removed collect_refused c.collect.result c.collected.result c.collected.ensures
    (IfOk-weaker c.collect.result _ _ (λ removed has s there. let x = has s there in ap outcomes.Removed x.2 ∙ ap (λ (t : Result Change CollectRefusal). (collected t).0) (sym x.1)) c.collect.ensures.collected)
    (λ s refusal there was. ap (λ (t : Result Change CollectRefusal). (collected t).0) (sym (c.collect.ensures.refused s refusal there was)))

pub returns-in-Collect-clause-refused : goal.returns-in-Collect-clause-refused
returns-in-Collect-clause-refused g c =
    refuses_so g.K.Keeper c.args.what.now (calls.Collect c.in-Collect.lifetime) c.args.now c.args.self.now c.collect.new.self c.in-Collect.is outcomes.Removed collect_refused c.collect.result c.collected.result c.collected.ensures
    (IfOk-weaker c.collect.result _ _ (λ removed has s there. let x = has s there in ap outcomes.Removed x.2 ∙ ap (λ (t : Result Change CollectRefusal). (collected t).0) (sym x.1)) c.collect.ensures.collected)
    (λ s refusal there was. ap (λ (t : Result Change CollectRefusal). (collected t).0) (sym (c.collect.ensures.refused s refusal there was)))

pub returns-in-Collect-clause-calls : goal.returns-in-Collect-clause-calls
returns-in-Collect-clause-calls g c =
    called g.K.Keeper c.args.what.now (calls.Collect c.in-Collect.lifetime) c.args.now c.args.self.now c.collect.new.self c.in-Collect.is outcomes.Removed collect_refused c.collect.result c.collected.result c.collected.ensures c.collect.ensures.calls

-- ---- a change-over to schema 2

pub upgrade-requires : goal.upgrade-requires
upgrade-requires g c = record { follows = subst (λ (asked : Asked). AllFollow g.K.Keeper (called_in asked c.args.now)) c.in-Upgrade.is c.requires.follows }

pub returns-in-Upgrade-clause-told : goal.returns-in-Upgrade-clause-told
returns-in-Upgrade-clause-told g c =
    says g.K.Keeper c.args.what.now calls.Upgrade c.args.now c.args.self.now c.upgrade.new.self c.in-Upgrade.is (λ _. outcomes.Ok) upgrade_refused c.upgrade.result c.changed_over.result c.changed_over.ensures
    (IfOk-weaker c.upgrade.result _ _ (λ _ has s there. ap (λ (t : Result Change UpgradeRefusal). (changed_over t).0) (sym (has s there).1)) c.upgrade.ensures.upgraded)
    (λ s refusal there was. ap (λ (t : Result Change UpgradeRefusal). (changed_over t).0) (sym (c.upgrade.ensures.refused s refusal there was)))

pub returns-in-Upgrade-clause-refused : goal.returns-in-Upgrade-clause-refused
returns-in-Upgrade-clause-refused g c =
    refuses_so g.K.Keeper c.args.what.now calls.Upgrade c.args.now c.args.self.now c.upgrade.new.self c.in-Upgrade.is (λ _. outcomes.Ok) upgrade_refused c.upgrade.result c.changed_over.result c.changed_over.ensures
    (IfOk-weaker c.upgrade.result _ _ (λ _ has s there. ap (λ (t : Result Change UpgradeRefusal). (changed_over t).0) (sym (has s there).1)) c.upgrade.ensures.upgraded)
    (λ s refusal there was. ap (λ (t : Result Change UpgradeRefusal). (changed_over t).0) (sym (c.upgrade.ensures.refused s refusal there was)))

pub returns-in-Upgrade-clause-calls : goal.returns-in-Upgrade-clause-calls
returns-in-Upgrade-clause-calls g c =
    called g.K.Keeper c.args.what.now calls.Upgrade c.args.now c.args.self.now c.upgrade.new.self c.in-Upgrade.is (λ _. outcomes.Ok) upgrade_refused c.upgrade.result c.changed_over.result c.changed_over.ensures c.upgrade.ensures.calls
