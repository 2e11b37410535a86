-- All lines but writes, messages that come and pulls answer plainly.
use Rattle.std.proofs.Common.{◌≡◌, inl, inr, sym, subst, ℕ, List, [], ◌∷◌, ◌++◌, Bool, true, false, Option, Some, None, Result, Ok, Err, refl, if◌then◌else◌, codes, ap}
use Rattle.adr_call.specs.declared.answer.Answer.{Answer}
use Rattle.adr_call.specs.declared.outcome.Outcome.TheVariants as outcomes
use Rattle.adr_call.specs.declared.call.Call.TheVariants as calls
use Rattle.adr_call.specs.declared.event.Event.{Event}
use Rattle.adr_call.specs.declared.event.Event.TheVariants as events
use Rattle.adr_call.specs.declared.event.Coming.{Coming}
use Rattle.adr_call.specs.declared.event.Coming.TheVariants as comings
use Rattle.adr_call.specs.declared.event.Use.{Use}
use Rattle.adr_call.specs.declared.event.Use.TheVariants as used
use Rattle.adr_call.specs.declared.event.Made.{Made}
use Rattle.adr_call.specs.declared.event.Made.TheVariants as mades
use Rattle.adr_call.specs.declared.event.Exchange.{Exchange}
use Rattle.adr_call.specs.declared.event.Meeting.{Meeting}
use Rattle.adr_call.specs.Verbs.{verb_of_coming, verb_of_made, verb_of_meeting, verb_of_report, verb_of_use, verb_of_write, word_of}
use Rattle.adr_call.specs.declared.report.Report.{Report}
use Rattle.adr_call.specs.declared.refusal.CollectRefusal.{CollectRefusal}
use Rattle.adr_call.specs.declared.refusal.AdoptRefusal.{AdoptRefusal}
use Rattle.adr_model.specs.Update.{Identifier}
use Rattle.adr_model.specs.Store.{Store, State}
use Rattle.adr_model.specs.Change.{Change}
use Rattle.adr_model.specs.Lengths.{new_log, area_fits, change_fits}
use Rattle.adr_model.specs.Member.{Each}
use Rattle.adr_model.specs.Serve.{is_quarantined}
use Rattle.adr_model.specs.Write.{Write, write_meant, Revive}
use Rattle.adr_model.specs.Given.{IsWellGiven}
use Rattle.adr_model.specs.Collect.{collect, backup, adopt}
use Rattle.adr_model.specs.Client.{Done, changed_over, collected, done}
use Rattle.adr_model.specs.Replica.{Call, ToCollect, ToWrite, Replica, on_new_disk, begun, commit_goes, start_goes, ToUpgrade}
use Rattle.adr_model.specs.World.{Name, World, Snapshot, Gone, Sent, answer, stays, nothing, bound_at, replica_at, with_replica, of_made, of_controller, committed, after_call, does, asks, serves_request, delivers, backed_up, adopts, put_back, reported}
use Rattle.adr_model.specs.Step.{client_write, write_of, gives, comes, uses, makes, goes, meets, step, told, revival}
use Rattle.adr_model.specs.Convergence.{MayHappen}
use Rattle.adr_law_convergence.proofs.Reached.{plain_made, plain_up, plain_reached, within_case, image_case, installs_case, restores_case, meets_case}
use Rattle.adr_law_convergence.proofs.Refusals.{IsPlain, collect_refused_plainly, adopt_refused_plainly, reported_plainly, after_calls, upgrade_refused_plainly}
use Rattle.adr_call.specs.declared.refusal.UpgradeRefusal.{UpgradeRefusal}
use Rattle.adr_model.specs.Upgrade.{upgrade}
use Rattle.adr_model.specs.Formed.{IsFormedStore}
use Rattle.adr_law_convergence.proofs.Found.{bound_member}

abbrev AnswersPlainly : Gone → Type 0
AnswersPlainly g = IsPlain g.1

abbrev SendsPlainly : {A : Type 0} → Sent A → Type 0
SendsPlainly t = IsPlain t.1

module _ (w : World) where
  pub asked : (name partner : Name) (max version : ℕ) → SendsPlainly (asks w name partner max version)
  asked name partner max version =
      plain_made SendsPlainly w name (nothing w) (λ o plain. plain) _ (λ r is. plain_made SendsPlainly w partner (nothing w) (λ o plain. plain) _ (λ p at. plain_up SendsPlainly w name (nothing w) (λ o plain. plain) r.standing _ (λ up. refl)))

  called : (r : Replica) (call : Call) (d : Done) → IsPlain d.0 → AnswersPlainly (after_call w r call d)
  called r call (told, None) is = is
  called r call (told, Some c) is = within_case AnswersPlainly w (change_fits r.device.safe_log r.safe.store c) (committed w r (record { call = call; change = c }) told) refl
      (after_calls IsPlain (λ o is. is) told is (commit_goes r (record { call = call; change = c })))

  does_plainly : (name : Name) (call : Call) → ((s : State) → IsPlain (done s call).0) → AnswersPlainly (does w name call)
  does_plainly name call plainly = plain_reached AnswersPlainly w name (stays w) (λ o plain. plain) (λ r. after_call w r call (done r.safe call)) (λ r is up. called r call (done r.safe call) (plainly r.safe))

  collects : (name : Name) (lifetime : ℕ) → AnswersPlainly (does w name (ToCollect w.time lifetime))
  collects name lifetime = does_plainly name (ToCollect w.time lifetime) (λ s. by (collect s w.time lifetime))
    where
      by : (t : Result Change CollectRefusal) → IsPlain (collected t).0
      by (Err x) = collect_refused_plainly x
      by (Ok c) = refl

  upgrades : (name : Name) → AnswersPlainly (does w name ToUpgrade)
  upgrades name = does_plainly name ToUpgrade (λ s. by (upgrade s))
    where
      by : (t : Result Change UpgradeRefusal) → IsPlain (changed_over t).0
      by (Err x) = upgrade_refused_plainly x
      by (Ok c) = refl

  backs_up : (name : Name) → SendsPlainly (of_controller w name (nothing w) (λ r. backed_up w (backup r.safe)))
  backs_up name = plain_reached SendsPlainly w name (nothing w) (λ o plain. plain) (λ r. backed_up w (backup r.safe)) (λ r is up. by (is_quarantined r.safe.mode) r.safe.store)
    where
      by : (b : Bool) (s : Store) → SendsPlainly (backed_up w (if b then None else Some s))
      by true s = refl
      by false s = refl

  adopted : (placed : Replica → List Replica) (name : Name) (t : Result State AdoptRefusal) → AnswersPlainly (adopts w placed name t)
  adopted placed name (Err x) = adopt_refused_plainly x
  adopted placed name (Ok s) = within_case AnswersPlainly w (area_fits (new_log s) s.store) (record w { book = begun w.book s; replicas = placed (on_new_disk name s) }, outcomes.Ok) refl refl

  meets_plainly : (name : Name) (what : Meeting) → AnswersPlainly (of_made (stays w) (replica_at w name) (λ r. meets w r what))
  meets_plainly name = meets_case AnswersPlainly w name (λ o plain. plain) (λ r is. refl) (λ r is not_up. after_calls IsPlain (λ o plain. plain) outcomes.Ok refl (start_goes r)) (λ r is plan. refl)

  reports : (name : Name) (what : Report) → AnswersPlainly (of_controller w name (stays w) (λ r. (w, reported w r.safe what)))
  reports name what = plain_reached AnswersPlainly w name (stays w) (λ o plain. plain) (λ r. (w, reported w r.safe what)) (λ r is up. reported_plainly w r.safe what)

  taken_back : (name : Name) → SendsPlainly {A = Snapshot} (of_made (nothing w) (replica_at w name) (λ r. (w, outcomes.Ok, Some (record { state = r.read; log = r.device.read_log }))))
  taken_back name = plain_made (SendsPlainly {A = Snapshot}) w name (nothing w) (λ o plain. plain) (λ r. (w, outcomes.Ok, Some (record { state = r.read; log = r.device.read_log }))) (λ r is. refl)

  rolls_back : (name : Name) (o : Option Snapshot) → AnswersPlainly (of_made (stays w) (replica_at w name) (λ r. put_back w name o))
  rolls_back name o = plain_made AnswersPlainly w name (stays w) (λ x plain. plain) (λ r. put_back w name o) (λ r is. by o)
    where
      by : (o : Option Snapshot) → AnswersPlainly (put_back w name o)
      by None = refl
      by (Some s) = refl

comes_plainly : (w : World) (name : Name) (inv : Identifier) (how : Coming) → AnswersPlainly (comes w name inv how)
comes_plainly w name inv (comings.Fresh dsa) = refl
comes_plainly w name inv (comings.Installed dsa image) = installs_case AnswersPlainly w name inv image dsa refl (λ i e. adopted (gives w (dsa ∷ []) (inv ∷ [])) (λ r. w.replicas ++ r ∷ []) name (adopt i dsa inv))
comes_plainly w name inv (comings.Restored image) = restores_case AnswersPlainly w name inv image (λ o plain. plain) (λ r is i e. adopted (gives w [] (inv ∷ [])) (with_replica w.replicas) name (adopt i r.safe.dsa inv))

-- a fact of each answer, with the world behind its line
abbrev pub OfAnswers : (World → Answer → Type 0) → World × List Answer → Type 0
OfAnswers Q t = Each (λ (a : Answer). Q t.0 a) t.1

pub one_answer : (Q : World → Answer → Type 0) (v : World) (a : Answer) → Q v a → OfAnswers Q (v, a ∷ [])
one_answer Q v a is b (inl e) = subst (Q v) (sym e) is
one_answer Q v a is b (inr m) = absurd m

-- what holds of plain answers, of those to writes, to messages that come and to pulls holds of those to every line that may happen
module _ (Q : Event → World → Answer → Type 0) (w : World) (plain : (e : Event) (v : World) (a : Answer) → IsPlain a.outcome → Q e v a)
    (wrote : (e : Event) (verb : List ℕ) (name : Name) (what : Write) → IsWellGiven what → write_of w e ≡ client_write name what → Q e (does w name (ToWrite what w.time)).0 (answer verb name (does w name (ToWrite what w.time)).1))
    (served : (name request bind : Name) → Q (events.Binds name (mades.Serve request) bind) (step w (events.Binds name (mades.Serve request) bind)).0 (answer (codes "serve") name (serves_request w name (bound_at w.requests request)).1))
    (took : (name reply : Name) → Q (events.Uses name used.Deliver reply) (step w (events.Uses name used.Deliver reply)).0 (answer (codes "deliver") name (delivers w name (bound_at w.replies reply)).1))
    (went : (name : Name) (what : Exchange) → OfAnswers (Q (events.Goes name what)) (goes w name what))
    (images : Each (λ (i : Name × Store). IsFormedStore i.1) w.images) where
  -- the one answer of a line is plain
  plainly : (e : Event) (verb : List ℕ) (name : Name) (g : Gone) → IsPlain g.1 → OfAnswers (Q e) (told verb name g)
  plainly e verb name g is = one_answer (Q e) g.0 (answer verb name g.1) (plain e g.0 (answer verb name g.1) is)

  written : (e : Event) (verb : List ℕ) (name : Name) (what : Write) → IsWellGiven what → write_of w e ≡ client_write name what → OfAnswers (Q e) (told verb name (does w name (ToWrite what w.time)))
  written e verb name what is wrote_it = one_answer (Q e) (does w name (ToWrite what w.time)).0 (answer verb name (does w name (ToWrite what w.time)).1) (wrote e verb name what is wrote_it)

  used_case : (name bind : Name) (what : Use) → OfAnswers (Q (events.Uses name what bind)) (told (word_of (verb_of_use what)) name (uses w name what bind))
  used_case name bind used.Deliver = one_answer (Q (events.Uses name used.Deliver bind)) (delivers w name (bound_at w.replies bind)).0 (answer (codes "deliver") name (delivers w name (bound_at w.replies bind)).1) (took name bind)
  used_case name bind (used.Revive guid parent text) = image_case (λ (g : Gone). OfAnswers (Q (events.Uses name (used.Revive guid parent text) bind)) (told (codes "revive") name g)) w (bound_at w.images bind) (λ i. does w name (ToWrite (Revive i guid parent text) w.time))
      (plainly (events.Uses name (used.Revive guid parent text) bind) (codes "revive") name (w, outcomes.Absent) refl)
      (λ i is. written (events.Uses name (used.Revive guid parent text) bind) (codes "revive") name (Revive i guid parent text) (bound_member IsFormedStore w.images bind i images is) (ap (revival name guid parent text) is))
  used_case name bind used.Rollback = plainly (events.Uses name used.Rollback bind) (codes "rollback") name (uses w name used.Rollback bind) (rolls_back w name (bound_at w.snapshots bind))

  made_answer : (name bind : Name) (what : Made) → OfAnswers (Q (events.Binds name what bind)) (told (word_of (verb_of_made what)) name (makes w name what bind))
  made_answer name bind (mades.Ask partner max version) = plainly (events.Binds name (mades.Ask partner max version) bind) (codes "ask") name (makes w name (mades.Ask partner max version) bind) (asked w name partner max version)
  made_answer name bind (mades.Serve request) = one_answer (Q (events.Binds name (mades.Serve request) bind)) (makes w name (mades.Serve request) bind).0 (answer (codes "serve") name (serves_request w name (bound_at w.requests request)).1) (served name request bind)
  made_answer name bind mades.Backup = plainly (events.Binds name mades.Backup bind) (codes "backup") name (makes w name mades.Backup bind) (backs_up w name)
  made_answer name bind mades.Snapshot = plainly (events.Binds name mades.Snapshot bind) (codes "snapshot") name (makes w name mades.Snapshot bind) (taken_back w name)

  pub line_case : (e : Event) → MayHappen w e → OfAnswers (Q e) (step w e)
  line_case (events.Time now) may = λ a m. absurd m
  line_case (events.Comes name inv how) may = plainly (events.Comes name inv how) (word_of (verb_of_coming how)) name (comes w name inv how) (comes_plainly w name inv how)
  line_case (events.Calls name (calls.Write what)) may = written (events.Calls name (calls.Write what)) (word_of (verb_of_write what)) name (write_meant what) may refl
  line_case (events.Calls name (calls.Collect lifetime)) may = plainly (events.Calls name (calls.Collect lifetime)) (codes "collect") name (does w name (ToCollect w.time lifetime)) (collects w name lifetime)
  line_case (events.Calls name calls.Upgrade) may = plainly (events.Calls name calls.Upgrade) (codes "upgrade") name (does w name ToUpgrade) (upgrades w name)
  line_case (events.Uses name what bind) may = used_case name bind what
  line_case (events.Binds name what bind) may = made_answer name bind what
  line_case (events.Asks name what) may = plainly (events.Asks name what) (word_of (verb_of_report what)) name (of_controller w name (stays w) (λ r. (w, reported w r.safe what))) (reports w name what)
  line_case (events.Goes name what) may = went name what
  line_case (events.Meets name what) may = plainly (events.Meets name what) (word_of (verb_of_meeting what)) name (of_made (stays w) (replica_at w name) (λ r. meets w r what)) (meets_plainly w name what)
