-- What a controller commits can be recorded.
use Rattle.std.proofs.Common.{◌≡◌, ◌∙◌, refl, ap, subst, ℕ, ◌<◌, ◌≤◌, ◌^◌, List, ◌∷◌, Bool, true, false, Option, Some, Result, Ok, Err, arith}
use Rattle.std.specs.Bool.{then_some}
use Rattle.adr_values.specs.First.{first_of}
use Rattle.adr_call.specs.declared.call.Call.{Call as Called}
use Rattle.adr_call.specs.declared.call.Call.TheVariants as calls
use Rattle.adr_call.specs.declared.refusal.ServeRefusal.{ServeRefusal}
use Rattle.adr_call.specs.declared.refusal.ServeRefusal.TheVariants as serves
use Rattle.adr_call.specs.declared.refusal.TakeRefusal.{TakeRefusal}
use Rattle.adr_call.specs.declared.refusal.TakeRefusal.TheVariants as takes
use Rattle.adr_model.specs.Refusing.{unless}
use Rattle.adr_model.specs.Store.{State, Mode, Normal, Quarantined}
use Rattle.adr_model.specs.Change.{Change, after}
use Rattle.adr_model.specs.Collect.{collect, quarantine}
use Rattle.adr_model.specs.Replica.{change_in}
use Rattle.adr_model.specs.Serve.{Request, Reply, serve, is_quarantined}
use Rattle.adr_model.specs.Take.{take}
use Rattle.adr_model.specs.Upgrade.{upgrade}
use Rattle.adr_model.specs.Write.{Write, write, write_meant, usn_limit}
use Rattle.adr_model.specs.Given.{IsWellGiven}
use Rattle.adr_model.specs.Client.{IsWellAsked}
use Rattle.adr_state.specs.Refusal.{IsOverfull}
use Rattle.adr_model.specs.Spelled.{IsSpelledReply}
use Rattle.adr_records.specs.Logged.{IsLogged, MayBeRecorded}
use Rattle.adr_controller.specs.Able.{called_in, served_in, taken_in, change_of_served, change_of_taken, request_shows, reply_shows}
use Rattle.adr_law_recorded.specs.Typed.{IsTypedCall, IsTypedWrite}
use Rattle.adr_law_recorded.specs.Ranged.{IsRangedReply}
use Rattle.adr_law_recorded.specs.Laws.{CollectedIsRecorded, LoggedFits, QuarantineIsRecorded, RecordedIsLogged, TakenIsRecorded, UpgradeIsRecorded, WrittenIsRecorded}

-- what a controller asks of a change that it commits
pub record Recorded (s : State) (c : Change) : Type 0 where
  pub follows : MayBeRecorded s c
  pub fits : ¬ IsOverfull (after s c)
  pub formed : IsLogged (after s c)

change_ok : {E : Type 0} (t : Result Change E) (c : Change) → change_in t ≡ Some c → t ≡ Ok c
change_ok (Ok x) c is = cc is
change_ok (Err e) c is = absurd (cc is)

is_normal : (m : Mode) → is_quarantined m ≡ false → m ≡ Normal
is_normal Normal is = refl
is_normal Quarantined is = absurd (cc is)

shown_true : (b : Bool) (x c : Change) → then_some b x ≡ Some c → (b ≡ true) × (x ≡ c)
shown_true true x c is = (refl, cc is)
shown_true false x c is = absurd (cc is)

reply_normal : (b : Bool) (rest : List (Option TakeRefusal)) (x : Change) (refusal : TakeRefusal) → unless (first_of (then_some b takes.Quarantined ∷ rest)) x ≡ Err refusal → reply_shows refusal ≡ true → b ≡ false
reply_normal true rest x refusal is shows = absurd (let quarantined : takes.Quarantined ≡ refusal = cc is in cc (ap reply_shows quarantined, shows))
reply_normal false rest x refusal is shows = refl

request_normal : (b : Bool) (rest : List (Option ServeRefusal)) (x : Reply) (refusal : ServeRefusal) → unless (first_of (then_some b serves.Quarantined ∷ rest)) x ≡ Err refusal → request_shows refusal ≡ true → b ≡ false
request_normal true rest x refusal is shows = absurd (let quarantined : serves.Quarantined ≡ refusal = cc is in cc (ap request_shows quarantined, shows))
request_normal false rest x refusal is shows = refl

module _ (logged : RecordedIsLogged) (fits : LoggedFits) where
  recorded_so : (s : State) (c : Change) → MayBeRecorded s c → Recorded s c
  recorded_so s c may = let formed = logged s c may in record { follows = may; fits = λ over. fits (after s c) formed over; formed = formed }

  pub written_follows : WrittenIsRecorded → (what : Write) (now : ℕ) → IsWellGiven what → IsTypedWrite what → now < 2 ^ 64
      → (s : State) (c : Change) → IsLogged s → change_in (write s what now) ≡ Some c → Recorded s c
  written_follows law what now given typed before s c is makes = recorded_so s c (law s what now c is given typed before (change_ok (write s what now) c makes))

  pub called_follows : WrittenIsRecorded → CollectedIsRecorded → UpgradeIsRecorded → (what : Called) (now : ℕ) → IsWellAsked what → IsTypedCall what → now < 2 ^ 64
      → (s : State) (c : Change) → IsLogged s → called_in what now s ≡ Some c → Recorded s c
  called_follows writes collects upgrades (calls.Write what) now given typed before s c is makes = written_follows writes (write_meant what) now given typed before s c is makes
  called_follows writes collects upgrades (calls.Collect lifetime) now given typed before s c is makes = recorded_so s c (collects s now lifetime c is (change_ok (collect s now lifetime) c makes))
  called_follows writes collects upgrades calls.Upgrade now given typed before s c is makes = recorded_so s c (upgrades s c is (change_ok (upgrade s) c makes))

  quarantine_follows : QuarantineIsRecorded → (s : State) (c : Change) → IsLogged s → s.mode ≡ Normal → quarantine s ≡ c → Recorded s c
  quarantine_follows law s c is normal same = recorded_so s c (subst (λ x. MayBeRecorded s x) same (law s is normal))

  pub taken_follows : TakenIsRecorded → QuarantineIsRecorded → (reply : Reply) → IsSpelledReply reply → IsRangedReply reply
      → (s : State) (c : Change) → IsLogged s → taken_in reply s ≡ Some c → Recorded s c
  taken_follows law still reply spelled ranged s c is makes = by (take s reply) refl makes
    where
      by : (t : Result Change TakeRefusal) → take s reply ≡ t → change_of_taken s t ≡ Some c → Recorded s c
      by (Ok x) took makes = recorded_so s c (law s reply c is spelled ranged (took ∙ cc makes))
      by (Err refusal) took makes =
          let shown = shown_true (reply_shows refusal) (quarantine s) c makes in
          quarantine_follows still s c is (is_normal s.mode (reply_normal (is_quarantined s.mode) _ _ refusal took shown.0)) shown.1

  pub served_follows : QuarantineIsRecorded → (request : Request) (now : ℕ) (s : State) (c : Change) → IsLogged s → served_in request now s ≡ Some c → Recorded s c
  served_follows still request now s c is makes = by (serve s request now) refl makes
    where
      by : (t : Result Reply ServeRefusal) → serve s request now ≡ t → change_of_served s t ≡ Some c → Recorded s c
      by (Ok x) answered makes = absurd (cc makes)
      by (Err refusal) answered makes =
          let shown = shown_true (request_shows refusal) (quarantine s) c makes in
          quarantine_follows still s c is (is_normal s.mode (request_normal (is_quarantined s.mode) _ _ refusal answered shown.0)) shown.1

pub usn_within : (s : State) → IsLogged s → s.store.usn ≤ usn_limit
usn_within s is = let usn = is.spelled.usn in omega arith
