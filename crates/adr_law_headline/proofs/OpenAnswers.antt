-- In a sound world no answer to a line is that a controller is quarantined.
use Rattle.std.proofs.Common.{◌≡◌, inl, inr, ℕ, List, [], ◌∷◌, ◌++◌, Bool, true, Option, Some, None, Result, Ok, Err, refl, sym, ap, subst, length, if◌then◌else◌, ◌==◌}
use Rattle.adr_call.specs.declared.answer.Answer.{Answer}
use Rattle.adr_call.specs.declared.outcome.Outcome.{Outcome}
use Rattle.adr_call.specs.declared.outcome.Outcome.TheVariants as outcomes
use Rattle.adr_call.specs.declared.event.Event.{Event}
use Rattle.adr_call.specs.declared.event.Event.TheVariants as events
use Rattle.adr_call.specs.declared.event.Coming.{Coming}
use Rattle.adr_call.specs.declared.event.Coming.TheVariants as comings
use Rattle.adr_call.specs.declared.event.Use.{Use}
use Rattle.adr_call.specs.declared.event.Use.TheVariants as used
use Rattle.adr_call.specs.declared.event.Made.{Made}
use Rattle.adr_call.specs.declared.event.Made.TheVariants as mades
use Rattle.adr_call.specs.declared.event.Meeting.{Meeting}
use Rattle.adr_call.specs.declared.event.Meeting.TheVariants as meetings
use Rattle.adr_call.specs.declared.report.Report.{Report}
use Rattle.adr_call.specs.declared.report.Report.TheVariants as reports
use Rattle.adr_call.specs.declared.refusal.WriteRefusal.{WriteRefusal}
use Rattle.adr_call.specs.declared.refusal.ServeRefusal.{ServeRefusal}
use Rattle.adr_call.specs.declared.refusal.ServeRefusal.TheVariants as serves
use Rattle.adr_call.specs.declared.refusal.TakeRefusal.{TakeRefusal}
use Rattle.adr_call.specs.declared.refusal.TakeRefusal.TheVariants as takes
use Rattle.adr_call.specs.declared.refusal.CollectRefusal.{CollectRefusal}
use Rattle.adr_call.specs.declared.refusal.UpgradeRefusal.{UpgradeRefusal}
use Rattle.adr_call.specs.declared.refusal.AdoptRefusal.{AdoptRefusal}
use Rattle.adr_call.specs.Verbs.{verb_of_call, verb_of_coming, verb_of_made, verb_of_meeting, verb_of_report, verb_of_use, word_of}
use Rattle.adr_disk.specs.declared.memory.Mishap.TheVariants.{Fails, Stops}
use Rattle.adr_model.specs.Member.{Member, Each}
use Rattle.adr_model.specs.Update.{Identifier}
use Rattle.adr_model.specs.Store.{Normal, State}
use Rattle.adr_model.specs.Change.{Change}
use Rattle.adr_model.specs.Lengths.{new_log, area_fits, change_fits}
use Rattle.adr_model.specs.Serve.{Request, Reply, serve}
use Rattle.adr_model.specs.Client.{Done, call_meant, changed_over, collected, done, written}
use Rattle.adr_model.specs.Write.{Revive, write}
use Rattle.adr_model.specs.Take.{take}
use Rattle.adr_model.specs.Collect.{collect, backup, adopt, quarantine}
use Rattle.adr_model.specs.Upgrade.{upgrade}
use Rattle.adr_model.specs.Refused.{serve_refused, take_refused}
use Rattle.adr_model.specs.Replica.{Call, ToWrite, ToTake, ToCollect, ToUpgrade, ToQuarantine, Went, Passed, Met, Pending, Standing, Up, Down, Failed, Replica, on_new_disk, begun, outcome_after, commit_goes, start_goes}
use Rattle.adr_model.specs.World.{Name, World, Snapshot, Gone, Sent, answer, stays, nothing, bound_at, replica_at, with_replica, of_made, where_up, of_controller, of_image, committed, commit, after_call, does, asks, after_serve, served, serves_request, after_take, delivered, delivers, backed_up, adopts, put_back, starts, reported}
use Rattle.adr_model.specs.Cycles.{pull_version}
use Rattle.adr_model.specs.Step.{gives, comes, uses, makes, meets, step}
use Rattle.adr_model.specs.Sound.{IsSoundWorld}
use Rattle.adr_model.specs.Convergence.{NoneRefused}
use Rattle.adr_law_convergence.proofs.Found.{replica_found}
use Rattle.adr_law_convergence.proofs.Reached.{within_case, image_case}
use Rattle.adr_law_convergence.proofs.Refusals.{number, refused_by_number}
use Rattle.adr_law_convergence.proofs.Binding.{IsRequest, IsReply}
use Rattle.adr_law_convergence.proofs.Exchanges.{IsKeptByCalls, goes_so}
use Rattle.adr_law_convergence.proofs.Stepping.{calls_sound}
use Rattle.adr_law_headline.proofs.OpenRefusals.{IsOpen, not_quarantined, write_open, serve_open, take_open, collect_open, upgrade_open, adopt_open}

-- ---- who is called

module _ {A : Type 0} (Q : A → Type 0) (w : World) (name : Name) (other : Outcome → A) (absent : Q (other outcomes.Absent)) where
  made : (act : Replica → A) → ((r : Replica) → Member r w.replicas → Q (act r)) → Q (of_made other (replica_at w name) act)
  made act acts = by (replica_at w name) refl
    where
      by : (o : Option Replica) → replica_at w name ≡ o → Q (of_made other o act)
      by None is = absent
      by (Some r) is = acts r (replica_found w name r is).0

  module _ (down : Q (other outcomes.Down)) (failed : Q (other outcomes.Failed)) where
    where_it_is_up : (standing : Standing) (gone : A) → Q gone → Q (where_up other standing gone)
    where_it_is_up Up gone is = is
    where_it_is_up Down gone is = down
    where_it_is_up Failed gone is = failed

    reached : (act : Replica → A) → ((r : Replica) → Member r w.replicas → Q (act r)) → Q (of_controller w name other act)
    reached act acts = made (λ r. where_up other r.standing (act r)) (λ r m. where_it_is_up r.standing (act r) (acts r m))

abbrev Goes : Gone → Type 0
Goes g = IsOpen g.1

abbrev Sends : {A : Type 0} → Sent A → Type 0
Sends t = IsOpen t.1

-- ---- device calls

calls : (o : Outcome) → IsOpen o → (g : Went) → IsOpen (outcome_after g o)
calls o is (Passed left) = is
calls o is (Met place (Stops how)) = refl
calls o is (Met place Fails) = refl

commits : (w : World) (r : Replica) (p : Pending) (o : Outcome) → IsOpen o → Goes (commit w r p o)
commits w r p o is = within_case Goes w (change_fits r.device.safe_log r.safe.store p.change) (committed w r p o) refl (calls o is (commit_goes r p))

-- what is answered to a client's call
module _ (s : State) (normal : s.mode ≡ Normal) where
  done_openly : (call : Call) → IsOpen (done s call).0
  done_openly (ToWrite what now) = by (write s what now) refl
    where
      by : (t : Result Change WriteRefusal) → write s what now ≡ t → IsOpen (written t).0
      by (Err x) e = write_open s normal what now x e
      by (Ok c) e = refl
  done_openly (ToCollect now lifetime) = by (collect s now lifetime) refl
    where
      by : (t : Result Change CollectRefusal) → collect s now lifetime ≡ t → IsOpen (collected t).0
      by (Err x) e = collect_open s normal now lifetime x e
      by (Ok c) e = refl
  done_openly ToUpgrade = by (upgrade s) refl
    where
      by : (t : Result Change UpgradeRefusal) → upgrade s ≡ t → IsOpen (changed_over t).0
      by (Err x) e = upgrade_open s normal x e
      by (Ok c) e = refl
  done_openly (ToTake reply) = refl
  done_openly ToQuarantine = refl

-- ---- calls of controllers that are not quarantined

module _ (w : World) (sound : IsSoundWorld w) where
  does_openly : (name : Name) (call : Call) → Goes (does w name call)
  does_openly name call = reached Goes w name (stays w) refl refl refl (λ r. after_call w r call (done r.safe call)) (λ r m. called r call (done r.safe call) (done_openly r.safe (sound.normal r m) call))
    where
      called : (r : Replica) (call : Call) (d : Done) → IsOpen d.0 → Goes (after_call w r call d)
      called r call (told, None) is = is
      called r call (told, Some c) is = commits w r (record { call = call; change = c }) told is

  asks_openly : (name partner : Name) (max version : ℕ) → Sends (asks w name partner max version)
  asks_openly name partner max version = made Sends w name (nothing w) refl _ (λ r m. made Sends w partner (nothing w) refl _ (λ p k. where_it_is_up Sends w name (nothing w) refl refl refl r.standing _ refl))

  refused_request : (r : Replica) (x : ServeRefusal) → IsOpen (serve_refused x) → Sends (after_serve w r (Err x))
  refused_request r (serves.RolledBack inv mine shown) is = commits w r (record { call = ToQuarantine; change = quarantine r.safe }) (serve_refused (serves.RolledBack inv mine shown)) is
  refused_request r _ is = is

  serves_openly : (name : Name) (o : Option Request) → Sends (serves_request w name o)
  serves_openly name o = reached Sends w name (nothing w) refl refl refl (λ r. served w r o) (λ r m. of r m o)
    where
      of : (r : Replica) → Member r w.replicas → (p : Option Request) → Sends (served w r p)
      of r m None = refl
      of r m (Some q) = by (serve r.safe q w.time) refl
        where
          by : (t : Result Reply ServeRefusal) → serve r.safe q w.time ≡ t → Sends (after_serve w r t)
          by (Ok reply) e = refl
          by (Err x) e = refused_request r x (serve_open r.safe (sound.normal r m) q w.time x e)

  refused_reply : (r : Replica) (p : Reply) (x : TakeRefusal) → IsOpen (take_refused x) → Goes (after_take w r p (Err x))
  refused_reply r p (takes.RolledBack inv mine shown) is = commits w r (record { call = ToQuarantine; change = quarantine r.safe }) (take_refused (takes.RolledBack inv mine shown)) is
  refused_reply r p _ is = is

  delivers_openly : (name : Name) (o : Option Reply) → Goes (delivers w name o)
  delivers_openly name o = reached Goes w name (stays w) refl refl refl (λ r. delivered w r o) (λ r m. of r m o)
    where
      of : (r : Replica) → Member r w.replicas → (p : Option Reply) → Goes (delivered w r p)
      of r m None = refl
      of r m (Some p) = by (take r.safe p) refl
        where
          by : (t : Result Change TakeRefusal) → take r.safe p ≡ t → Goes (after_take w r p t)
          by (Ok c) e = commits w r (record { call = ToTake p; change = c }) (outcomes.Took (length p.items) (length c.writes) c.usn) refl
          by (Err x) e = refused_reply r p x (take_open r.safe (sound.normal r m) p x e)

  backs_up_openly : (name : Name) → Sends (of_controller w name (nothing w) (λ r. backed_up w (backup r.safe)))
  backs_up_openly name = reached Sends w name (nothing w) refl refl refl (λ r. backed_up w (backup r.safe))
      (λ r m. subst (λ (b : Bool). Sends (backed_up w (if b then None else Some r.safe.store))) (sym (not_quarantined r.safe (sound.normal r m))) refl)

  -- ---- calls that don't look at it

  reports_openly : (name : Name) (what : Report) → Goes (of_controller w name (stays w) (λ r. (w, reported w r.safe what)))
  reports_openly name what = reached Goes w name (stays w) refl refl refl (λ r. (w, reported w r.safe what)) (λ r m. by r.safe what)
    where
      by : (s : State) (what : Report) → IsOpen (reported w s what)
      by s reports.Directory = refl
      by s _ = refl

  meets_openly : (name : Name) (what : Meeting) → Goes (of_made (stays w) (replica_at w name) (λ r. meets w r what))
  meets_openly name what = made Goes w name (stays w) refl (λ r. meets w r what) (λ r m. met r what)
    where
      started : (r : Replica) (standing : Standing) → Goes (starts w r standing)
      started r Up = refl
      started r Down = calls outcomes.Ok refl (start_goes r)
      started r Failed = calls outcomes.Ok refl (start_goes r)

      met : (r : Replica) (what : Meeting) → Goes (meets w r what)
      met r meetings.Start = started r r.standing
      met r _ = refl

  copies_openly : (name : Name) → Sends {A = Snapshot} (of_made (nothing w) (replica_at w name) (λ r. (w, outcomes.Ok, Some (record { state = r.read; log = r.device.read_log }))))
  copies_openly name = made (Sends {A = Snapshot}) w name (nothing w) refl (λ r. (w, outcomes.Ok, Some (record { state = r.read; log = r.device.read_log }))) (λ r m. refl)

  rolls_back_openly : (name : Name) (o : Option Snapshot) → Goes (of_made (stays w) (replica_at w name) (λ r. put_back w name o))
  rolls_back_openly name o = made Goes w name (stays w) refl (λ r. put_back w name o) (λ r m. by o)
    where
      by : (p : Option Snapshot) → Goes (put_back w name p)
      by None = refl
      by (Some s) = refl

-- a controller that is made of an image
module _ (w : World) where
  adopts_openly : (placed : Replica → List Replica) (name : Name) (t : Result State AdoptRefusal) → Goes (adopts w placed name t)
  adopts_openly placed name (Err x) = adopt_open x
  adopts_openly placed name (Ok s) = within_case Goes w (area_fits (new_log s) s.store) (record w { book = begun w.book s; replicas = placed (on_new_disk name s) }, outcomes.Ok) refl refl

  restores_openly : (name image : Name) (inv : Identifier) → Goes (of_made (stays w) (replica_at w name) (λ r. of_image w (bound_at w.images image) (λ i. adopts w (with_replica w.replicas) name (adopt i r.safe.dsa inv))))
  restores_openly name image inv = made Goes w name (stays w) refl (λ r. of_image w (bound_at w.images image) (λ i. adopts w (with_replica w.replicas) name (adopt i r.safe.dsa inv)))
      (λ r m. image_case Goes w (bound_at w.images image) (λ i. adopts w (with_replica w.replicas) name (adopt i r.safe.dsa inv)) refl (λ i e. adopts_openly (with_replica w.replicas) name (adopt i r.safe.dsa inv)))

  installs_openly : (name image : Name) (dsa inv : Identifier) → Goes (of_image w (bound_at w.images image) (λ i. adopts w (λ r. w.replicas ++ r ∷ []) name (adopt i dsa inv)))
  installs_openly name image dsa inv = image_case Goes w (bound_at w.images image) (λ i. adopts w (λ r. w.replicas ++ r ∷ []) name (adopt i dsa inv)) refl (λ i e. adopts_openly (λ r. w.replicas ++ r ∷ []) name (adopt i dsa inv))

-- ---- lines

open_calls : IsKeptByCalls IsSoundWorld IsRequest IsReply IsOpen
open_calls = calls_sound IsOpen (λ w name partner max sound. asks_openly w sound name partner max pull_version) (λ w name q sound is. serves_openly w sound name (Some q)) (λ w name r sound is. delivers_openly w sound name (Some r)) refl

abbrev AreOpen : List Answer → Type 0
AreOpen answers = Each (λ (a : Answer). IsOpen a.outcome) answers

one : (verb : List ℕ) (name : Name) (o : Outcome) → IsOpen o → AreOpen (answer verb name o ∷ [])
one verb name o is a (inl e) = subst (λ (b : Answer). IsOpen b.outcome) (sym e) is
one verb name o is a (inr m) = absurd m

module _ (w : World) (sound : IsSoundWorld w) where
  comes_openly : (name : Name) (inv : Identifier) (how : Coming) → Goes (comes w name inv how)
  comes_openly name inv (comings.Fresh dsa) = refl
  comes_openly name inv (comings.Installed dsa image) = installs_openly (gives w (dsa ∷ []) (inv ∷ [])) name image dsa inv
  comes_openly name inv (comings.Restored image) = restores_openly (gives w [] (inv ∷ [])) name image inv

  uses_openly : (name : Name) (what : Use) (bind : Name) → Goes (uses w name what bind)
  uses_openly name used.Deliver bind = delivers_openly w sound name (bound_at w.replies bind)
  uses_openly name (used.Revive guid parent text) bind = image_case Goes w (bound_at w.images bind) (λ i. does w name (ToWrite (Revive i guid parent text) w.time)) refl (λ i e. does_openly w sound name (ToWrite (Revive i guid parent text) w.time))
  uses_openly name used.Rollback bind = rolls_back_openly w sound name (bound_at w.snapshots bind)

  makes_openly : (name : Name) (what : Made) (bind : Name) → Goes (makes w name what bind)
  makes_openly name (mades.Ask partner max version) bind = asks_openly w sound name partner max version
  makes_openly name (mades.Serve request) bind = serves_openly w sound name (bound_at w.requests request)
  makes_openly name mades.Backup bind = backs_up_openly w sound name
  makes_openly name mades.Snapshot bind = copies_openly w sound name

  line_open : (e : Event) → AreOpen (step w e).1
  line_open (events.Time now) = λ a m. absurd m
  line_open (events.Comes name inv how) = one (word_of (verb_of_coming how)) name _ (comes_openly name inv how)
  line_open (events.Calls name what) = one (word_of (verb_of_call what)) name _ (does_openly w sound name (call_meant what w.time))
  line_open (events.Uses name what bind) = one (word_of (verb_of_use what)) name _ (uses_openly name what bind)
  line_open (events.Binds name what bind) = one (word_of (verb_of_made what)) name _ (makes_openly name what bind)
  line_open (events.Asks name what) = one (word_of (verb_of_report what)) name _ (reports_openly w sound name what)
  line_open (events.Goes name what) = (goes_so IsSoundWorld IsRequest IsReply IsOpen open_calls (λ n d v. refl) name what w sound).1
  line_open (events.Meets name what) = one (word_of (verb_of_meeting what)) name _ (meets_openly w sound name what)

-- whatever the line, also one that may not happen
pub none_is_quarantined : (w : World) (e : Event) → IsSoundWorld w → NoneRefused 23 (step w e).1
none_is_quarantined w e sound a m is = let so : IsOpen a.outcome = line_open w sound e a m in let same : (number a.outcome == 23) ≡ true = ap (λ n. n == 23) (refused_by_number 23 a.outcome is) in cc
