-- The outcome of each call that asks for no report is brief.
use Rattle.std.proofs.Common.{ℕ, ◌≤◌, ◌≡◌, Bool, true, false, List, length, Option, Some, None, Result, Ok, Err, refl}
use Rattle.std.specs.Prelude.{nat_le}
use Rattle.std.proofs.lemmas.Bool.{leb-true}
use Rattle.adr_values.specs.declared.refusal.SchemaRefusal.{SchemaRefusal}
use Rattle.adr_values.specs.declared.refusal.SchemaRefusal.TheVariants as schema
use Rattle.adr_call.specs.declared.outcome.Outcome.{Outcome}
use Rattle.adr_call.specs.declared.outcome.Outcome.TheVariants as outcomes
use Rattle.adr_call.specs.declared.refusal.Table.{Table}
use Rattle.adr_call.specs.declared.refusal.Table.TheVariants as tables
use Rattle.adr_call.specs.declared.refusal.ItemFault.{ItemFault}
use Rattle.adr_call.specs.declared.refusal.ItemFault.TheVariants as faults
use Rattle.adr_call.specs.declared.refusal.WriteRefusal.{WriteRefusal}
use Rattle.adr_call.specs.declared.refusal.WriteRefusal.TheVariants as write_refusals
use Rattle.adr_call.specs.declared.refusal.ServeRefusal.{ServeRefusal}
use Rattle.adr_call.specs.declared.refusal.ServeRefusal.TheVariants as serve_refusals
use Rattle.adr_call.specs.declared.refusal.TakeRefusal.{TakeRefusal}
use Rattle.adr_call.specs.declared.refusal.TakeRefusal.TheVariants as take_refusals
use Rattle.adr_call.specs.declared.refusal.CollectRefusal.{CollectRefusal}
use Rattle.adr_call.specs.declared.refusal.CollectRefusal.TheVariants as collect_refusals
use Rattle.adr_call.specs.declared.refusal.UpgradeRefusal.{UpgradeRefusal}
use Rattle.adr_call.specs.declared.refusal.UpgradeRefusal.TheVariants as upgrade_refusals
use Rattle.adr_call.specs.declared.refusal.AdoptRefusal.{AdoptRefusal}
use Rattle.adr_call.specs.declared.refusal.AdoptRefusal.TheVariants as adopt_refusals
use Rattle.adr_model.specs.Change.{Change}
use Rattle.adr_model.specs.Client.{Done, changed_over, collected, done, written}
use Rattle.adr_model.specs.Collect.{collect, quarantine}
use Rattle.adr_model.specs.Upgrade.{upgrade}
use Rattle.adr_model.specs.Lengths.{new_log, area_fits, change_fits}
use Rattle.adr_model.specs.Refused.{adopt_refused, collect_refused, full, schema_refused, serve_refused, take_refused, upgrade_refused, write_refused}
use Rattle.adr_disk.specs.declared.memory.Mishap.TheVariants.{Fails, Stops}
use Rattle.adr_model.specs.Replica.{Call, Met, Passed, Pending, Replica, ToCollect, ToQuarantine, ToTake, ToUpgrade, ToWrite, Went, Standing, Up, Down, Failed, commit_goes, outcome_after, start_goes}
use Rattle.adr_model.specs.Serve.{Reply, Request, serve}
use Rattle.adr_model.specs.Store.{State, Store}
use Rattle.adr_model.specs.Take.{take}
use Rattle.adr_model.specs.World.{Gone, Name, Sent, Snapshot, World, adopts, after_serve, after_take, asks, backed_up, begins, commit, committed, delivered, delivers, nothing, of_controller, of_image, of_made, put_back, quarantines, replica_at, served, serves_request, started, starts, stays, unless_refused, where_up, within_log, after_call, does}
use Rattle.adr_model.specs.Write.{write}
use Rattle.adr_answers.specs.Room.{HasNoReport, result_room}

-- no report, and no more than 400 bytes
pub record IsBrief (o : Outcome) : Type 0 where
  pub alone : HasNoReport o
  pub small : result_room o ≤ 400

brief : (o : Outcome) → HasNoReport o → nat_le (result_room o) 400 ≡ true → IsBrief o
brief o alone small = record { alone = alone; small = leb-true (result_room o) 400 small }

pub ok_brief : IsBrief outcomes.Ok
ok_brief = brief outcomes.Ok tt refl

pub more_brief : IsBrief outcomes.More
more_brief = brief outcomes.More tt refl

pub absent_brief : IsBrief outcomes.Absent
absent_brief = brief outcomes.Absent tt refl

down_brief : IsBrief outcomes.Down
down_brief = brief outcomes.Down tt refl

failed_brief : IsBrief outcomes.Failed
failed_brief = brief outcomes.Failed tt refl

-- ---- refusals

full_brief : (table : Table) (limit : ℕ) → IsBrief (full table limit)
full_brief tables.Objects limit = brief _ tt refl
full_brief table limit = brief _ tt refl

bad_item_brief : (place : ℕ) (cause : ItemFault) → IsBrief (take_refused (take_refusals.BadItem place cause))
bad_item_brief place (faults.Schema schema.UnknownClass) = brief _ tt refl
bad_item_brief place cause = brief _ tt refl

schema_brief : (r : SchemaRefusal) → IsBrief (schema_refused r)
schema_brief schema.UnknownClass = brief _ tt refl
schema_brief r = brief _ tt refl

write_brief : (r : WriteRefusal) → IsBrief (write_refused r)
write_brief (write_refusals.Schema refusal) = schema_brief refusal
write_brief (write_refusals.Full table limit) = full_brief table limit
write_brief r = brief _ tt refl

serve_brief : (r : ServeRefusal) → IsBrief (serve_refused r)
serve_brief serve_refusals.Quarantined = brief _ tt refl
serve_brief r = brief _ tt refl

take_brief : (r : TakeRefusal) → IsBrief (take_refused r)
take_brief (take_refusals.BadItem place cause) = bad_item_brief place cause
take_brief (take_refusals.Full table limit) = full_brief table limit
take_brief r = brief _ tt refl

collect_brief : (r : CollectRefusal) → IsBrief (collect_refused r)
collect_brief collect_refusals.Quarantined = brief _ tt refl
collect_brief collect_refusals.UsnLimit = brief _ tt refl

upgrade_brief : (r : UpgradeRefusal) → IsBrief (upgrade_refused r)
upgrade_brief upgrade_refusals.Quarantined = brief _ tt refl
upgrade_brief (upgrade_refusals.SchemaThere number) = brief _ tt refl

adopt_brief : (r : AdoptRefusal) → IsBrief (adopt_refused r)
adopt_brief adopt_refusals.IdentifierUsed = brief _ tt refl
adopt_brief (adopt_refusals.Full table limit) = full_brief table limit

-- ---- what is answered to clients' calls

written_brief : (t : Result Change WriteRefusal) → IsBrief (written t).0
written_brief (Ok c) = brief _ tt refl
written_brief (Err x) = write_brief x

collected_brief : (t : Result Change CollectRefusal) → IsBrief (collected t).0
collected_brief (Ok c) = brief _ tt refl
collected_brief (Err x) = collect_brief x

changed_over_brief : (t : Result Change UpgradeRefusal) → IsBrief (changed_over t).0
changed_over_brief (Ok c) = ok_brief
changed_over_brief (Err x) = upgrade_brief x

done_brief : (s : State) (call : Call) → IsBrief (done s call).0
done_brief s (ToWrite what now) = written_brief (write s what now)
done_brief s (ToCollect now lifetime) = collected_brief (collect s now lifetime)
done_brief s ToUpgrade = changed_over_brief (upgrade s)
done_brief s (ToTake reply) = ok_brief
done_brief s ToQuarantine = ok_brief

-- ---- calls

abbrev pub IsBriefly : Gone → Type 0
IsBriefly g = IsBrief g.1

abbrev pub IsSentBriefly : {A : Type 0} → Sent A → Type 0
IsSentBriefly t = IsBrief t.1

-- whom a call reaches
module _ {A : Type 0} (P : A → Type 0) (other : Outcome → A) (otherwise : (o : Outcome) → IsBrief o → P (other o)) where
  pub made_brief : (o : Option Replica) (act : Replica → A) → ((r : Replica) → P (act r)) → P (of_made other o act)
  made_brief None act all = otherwise outcomes.Absent absent_brief
  made_brief (Some r) act all = all r

  pub where_up_brief : (s : Standing) (a : A) → P a → P (where_up other s a)
  where_up_brief Up a is = is
  where_up_brief Down a is = otherwise outcomes.Down down_brief
  where_up_brief Failed a is = otherwise outcomes.Failed failed_brief

  pub called_brief : (w : World) (name : Name) (act : Replica → A) → ((r : Replica) → P (act r)) → P (of_controller w name other act)
  called_brief w name act all = made_brief (replica_at w name) (λ r. where_up other r.standing (act r)) (λ r. where_up_brief r.standing (act r) (all r))

module _ (w : World) where
  pub gone_otherwise : (o : Outcome) → IsBrief o → IsBriefly (stays w o)
  gone_otherwise o is = is

  pub sent_otherwise : (A : Type 0) (o : Outcome) → IsBrief o → IsSentBriefly {A = A} (nothing w o)
  sent_otherwise A o is = is

  within_brief : (fits : Bool) (g : Gone) → IsBriefly g → IsBriefly (within_log w fits g)
  within_brief true g is = is
  within_brief false g is = full_brief tables.Log _

  unless_brief : {A E : Type 0} (refused : E → Outcome) (act : A → Gone) (t : Result A E) → ((e : E) → IsBrief (refused e)) → ((a : A) → IsBriefly (act a)) → IsBriefly (unless_refused w refused act t)
  unless_brief refused act (Err e) refusals answers = refusals e
  unless_brief refused act (Ok a) refusals answers = answers a

after_brief : (g : Went) (o : Outcome) → IsBrief o → IsBrief (outcome_after g o)
after_brief (Passed left) o is = is
after_brief (Met place (Stops how)) o is = brief outcomes.Stopped tt refl
after_brief (Met place Fails) o is = brief outcomes.Disk tt refl

module _ (w : World) (r : Replica) where
  commit_brief : (p : Pending) (o : Outcome) → IsBrief o → IsBriefly (commit w r p o)
  commit_brief p o is = within_brief w (change_fits r.device.safe_log r.safe.store p.change) (committed w r p o) (after_brief (commit_goes r p) o is)

  quarantines_brief : (o : Outcome) → IsBrief o → IsBriefly (quarantines w r o)
  quarantines_brief o is = commit_brief (record { call = ToQuarantine; change = quarantine r.safe }) o is

  called_gone : (call : Call) (d : Done) → IsBrief d.0 → IsBriefly (after_call w r call d)
  called_gone call (told, None) is = is
  called_gone call (told, Some c) is = commit_brief (record { call = call; change = c }) told is

  serve_sent : (t : Result Reply ServeRefusal) → IsSentBriefly (after_serve w r t)
  serve_sent (Ok reply) = brief _ tt refl
  serve_sent (Err (serve_refusals.RolledBack inv mine shown)) = quarantines_brief (serve_refused (serve_refusals.RolledBack inv mine shown)) (brief _ tt refl)
  serve_sent (Err serve_refusals.Quarantined) = brief _ tt refl
  serve_sent (Err (serve_refusals.WrongController mine asked)) = brief _ tt refl
  serve_sent (Err (serve_refusals.BadMark prop obj seen)) = brief _ tt refl
  serve_sent (Err (serve_refusals.SchemaMismatch mine theirs)) = brief _ tt refl
  serve_sent (Err (serve_refusals.TooOld inv purged has)) = brief _ tt refl

  served_sent : (q : Option Request) → IsSentBriefly (served w r q)
  served_sent None = absent_brief
  served_sent (Some q) = serve_sent (serve r.safe q w.time)

  take_gone : (reply : Reply) (t : Result Change TakeRefusal) → IsBriefly (after_take w r reply t)
  take_gone reply (Ok change) = commit_brief (record { call = ToTake reply; change = change }) (outcomes.Took (length reply.items) (length change.writes) change.usn) (brief _ tt refl)
  take_gone reply (Err (take_refusals.RolledBack inv mine shown)) = quarantines_brief (take_refused (take_refusals.RolledBack inv mine shown)) (brief _ tt refl)
  take_gone reply (Err take_refusals.Quarantined) = brief _ tt refl
  take_gone reply (Err (take_refusals.NotMine dest)) = brief _ tt refl
  take_gone reply (Err (take_refusals.Stale mark from)) = brief _ tt refl
  take_gone reply (Err (take_refusals.VectorBehind inv has needs)) = brief _ tt refl
  take_gone reply (Err (take_refusals.SchemaMismatch mine theirs)) = brief _ tt refl
  take_gone reply (Err (take_refusals.BadItem place cause)) = bad_item_brief place cause
  take_gone reply (Err (take_refusals.Incomplete object)) = brief _ tt refl
  take_gone reply (Err take_refusals.UsnLimit) = brief _ tt refl
  take_gone reply (Err (take_refusals.Full table limit)) = full_brief table limit

  delivered_gone : (reply : Option Reply) → IsBriefly (delivered w r reply)
  delivered_gone None = absent_brief
  delivered_gone (Some reply) = take_gone reply (take r.safe reply)

  start_gone : IsBriefly (started w r)
  start_gone = after_brief (start_goes r) outcomes.Ok ok_brief

  pub starts_brief : (s : Standing) → IsBriefly (starts w r s)
  starts_brief Up = brief outcomes.Up tt refl
  starts_brief Down = start_gone
  starts_brief Failed = start_gone

module _ (w : World) where
  pub does_brief : (name : Name) (call : Call) → IsBriefly (does w name call)
  does_brief name call = called_brief IsBriefly (stays w) (gone_otherwise w) w name _ (λ r. called_gone w r call (done r.safe call) (done_brief r.safe call))

  pub asks_brief : (name partner : Name) (max version : ℕ) → IsSentBriefly (asks w name partner max version)
  asks_brief name partner max version =
      made_brief IsSentBriefly (nothing w) (sent_otherwise w Request) (replica_at w name) _ (λ r. made_brief IsSentBriefly (nothing w) (sent_otherwise w Request) (replica_at w partner) _ (λ p.
      where_up_brief IsSentBriefly (nothing w) (sent_otherwise w Request) r.standing _ ok_brief))

  pub serves_brief : (name : Name) (q : Option Request) → IsSentBriefly (serves_request w name q)
  serves_brief name q = called_brief IsSentBriefly (nothing w) (sent_otherwise w Reply) w name _ (λ r. served_sent w r q)

  pub delivers_brief : (name : Name) (reply : Option Reply) → IsBriefly (delivers w name reply)
  delivers_brief name reply = called_brief IsBriefly (stays w) (gone_otherwise w) w name _ (λ r. delivered_gone w r reply)

  pub backup_brief : (image : Option Store) → IsSentBriefly (backed_up w image)
  backup_brief None = brief _ tt refl
  backup_brief (Some image) = ok_brief

  pub adopts_brief : (placed : Replica → List Replica) (name : Name) (t : Result State AdoptRefusal) → IsBriefly (adopts w placed name t)
  adopts_brief placed name t = unless_brief w adopt_refused (begins w placed name) t adopt_brief (λ s. within_brief w (area_fits (new_log s) s.store) _ ok_brief)

  pub image_brief : (image : Option Store) (act : Store → Gone) → ((i : Store) → IsBriefly (act i)) → IsBriefly (of_image w image act)
  image_brief None act all = absent_brief
  image_brief (Some i) act all = all i

  pub put_back_brief : (name : Name) (s : Option Snapshot) → IsBriefly (put_back w name s)
  put_back_brief name None = absent_brief
  put_back_brief name (Some s) = ok_brief
