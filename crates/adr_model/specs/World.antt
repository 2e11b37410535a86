-- Where a run stands: the time, the book, the controllers and what is bound to names; and what each call of a controller does.
use Rattle.std.specs.Prelude.{ℕ, List, [], ◌∷◌, ◌++◌, ◌&&◌, ◌==◌, Bool, true, false, Option, Some, None, is_some, Result, Ok, Err, map, fold, length, if◌then◌else◌}
use Rattle.std.specs.List.{find, flat_map}
use Rattle.std.specs.Option.{option_map}
use Rattle.std.specs.Str.{bytes_eq}
use Rattle.adr_call.specs.declared.answer.Answer.{Answer}
use Rattle.adr_call.specs.declared.outcome.Outcome.{Outcome}
use Rattle.adr_call.specs.declared.outcome.Outcome.TheVariants as outcomes
use Rattle.adr_call.specs.declared.directory.Entry.{Entry}
use Rattle.adr_call.specs.declared.report.Report.{Report}
use Rattle.adr_call.specs.declared.report.Report.TheVariants as reports
use Rattle.adr_call.specs.declared.refusal.Table.TheVariants.{Log as log_table}
use Rattle.adr_call.specs.declared.refusal.ServeRefusal.{ServeRefusal}
use Rattle.adr_call.specs.declared.refusal.ServeRefusal.TheVariants as serves
use Rattle.adr_call.specs.declared.refusal.TakeRefusal.{TakeRefusal}
use Rattle.adr_call.specs.declared.refusal.TakeRefusal.TheVariants as takes
use Rattle.adr_call.specs.declared.refusal.AdoptRefusal.{AdoptRefusal}
use Rattle.adr_model.specs.Meta.{meta}
use Rattle.adr_model.specs.Update.{Identifier, Update}
use Rattle.adr_model.specs.Visible.{visible}
use Rattle.adr_model.specs.Directory.{directory}
use Rattle.adr_values.specs.declared.mark.Mark.{Mark}
use Rattle.adr_model.specs.Store.{PartnerMark, State, Store, updates_of}
use Rattle.adr_model.specs.Change.{Change, Item}
use Rattle.adr_model.specs.Serve.{Request, Reply, ask, serve}
use Rattle.adr_model.specs.Take.{take}
use Rattle.adr_model.specs.Collect.{quarantine}
use Rattle.adr_model.specs.Refused.{serve_refused, take_refused, adopt_refused, quarantined, full}
use Rattle.adr_model.specs.Lengths.{Log, log_limit, new_log, area_fits, change_fits}
use Rattle.adr_disk.specs.declared.memory.Plan.{Plan}
use Rattle.adr_model.specs.Client.{Done, done}
use Rattle.adr_model.specs.Replica.{Call, ToTake, ToQuarantine, Pending, Standing, Up, Down, Failed, Replica, on_disk, on_new_disk, Book, begun, Move, Settle, Device, moved, moves_of_commit, moves_of_start, standing_after, outcome_after, commit_goes, start_goes, device_after_commit, device_after_start, device_settled}

abbrev pub Name : Type 0
Name = List ℕ

-- what lines gave, whether or not they were answered ok
pub record Given : Type 0 where
  pub dsas : List Identifier
  pub invs : List Identifier

-- a copy of a controller's disk: what a start finds there, and where the log stands
pub record Snapshot : Type 0 where
  pub state : State
  pub log : Log

-- a last reply of version 2 that was made: by which incarnation, when, and at which USN
pub record LastReply : Type 0 where
  pub inv : Identifier
  pub time : ℕ
  pub usn : ℕ

-- where a run stands
pub record World : Type 0 where
  pub time : ℕ
  pub clean : Bool  -- no database was put back without a fresh identifier
  pub book : Book
  pub last_replies : List LastReply  -- with a name or without
  pub replicas : List Replica
  pub requests : List (Name × Request)
  pub replies : List (Name × Reply)
  pub images : List (Name × Store)
  pub snapshots : List (Name × Snapshot)
  pub given : Given

abbrev pub empty_world : World
empty_world =
    record {
      time = 0;
      clean = true;
      book = record { issued = []; logs = [] };
      last_replies = [];
      replicas = [];
      requests = [];
      replies = [];
      images = [];
      snapshots = [];
      given = record { dsas = []; invs = [] };
    }

-- what is bound to a name
abbrev pub bound_at : {A : Type 0} → List (Name × A) → Name → Option A
bound_at {A = A} xs name = option_map (λ (x : Name × A). x.1) (find (λ (x : Name × A). bytes_eq x.0 name) xs)

abbrev pub bound : {A : Type 0} → List (Name × A) → Name → Option A → List (Name × A)
bound xs name None = xs
bound xs name (Some x) = xs ++ (name, x) ∷ []

abbrev pub replica_at : World → Name → Option Replica
replica_at w name = find (λ r. bytes_eq r.name name) w.replicas

-- a controller in place of the one of its name
abbrev pub with_replica : List Replica → Replica → List Replica
with_replica rs r = map (λ q. if bytes_eq q.name r.name then r else q) rs

-- the issued updates that a controller covers or holds
abbrev pub in_view : World → State → List Update
in_view w s = visible w.book.issued s.store.vector (updates_of s.store.rows)

-- what a controller shows: the directory of what it has in view; after a database was put back, of what it holds
abbrev pub shown : World → State → List Entry
shown w s = directory (if w.clean then in_view w s else updates_of s.store.rows)

-- how far each partner was read: its identifier, the incarnation that was read, and the mark
abbrev pub marks_shown : Store → List (Identifier × Identifier × Mark)
marks_shown s = map (λ (k : Identifier × PartnerMark). (k.0, k.1.inv, k.1.mark)) s.marks

-- what a client is told that asks a controller for a report
abbrev pub reported : World → State → Report → Outcome
reported w s reports.Directory = outcomes.Show (shown w s)
reported w s reports.Vector = outcomes.Vector s.store.vector s.store.times
reported w s reports.Marks = outcomes.Marks (marks_shown s.store)
reported w s (reports.Meta guid) = outcomes.Meta (meta s.store.rows guid)

abbrev pub answer : List ℕ → Name → Outcome → Answer
answer verb name outcome = record { verb = verb; name = name; outcome = outcome }

-- ---- calls of a controller

-- what comes of a call: the world, and how it went
abbrev pub Gone : Type 0
Gone = World × Outcome

abbrev pub stays : World → Outcome → Gone
stays w outcome = (w, outcome)

-- a call of a controller that was made, or what is answered otherwise
abbrev pub of_made : {A : Type 0} → (Outcome → A) → Option Replica → (Replica → A) → A
of_made other None act = other outcomes.Absent
of_made other (Some r) act = act r

abbrev pub where_up : {A : Type 0} → (Outcome → A) → Standing → A → A
where_up other Up gone = gone
where_up other Down gone = other outcomes.Down
where_up other Failed gone = other outcomes.Failed

-- a call of a controller that is up
abbrev pub of_controller : {A : Type 0} → World → Name → (Outcome → A) → (Replica → A) → A
of_controller w name other act = of_made other (replica_at w name) (λ r. where_up other r.standing (act r))

-- a refusal is answered, and nothing has changed; what isn't refused goes on
abbrev pub unless_refused : {A E : Type 0} → World → (E → Outcome) → (A → Gone) → Result A E → Gone
unless_refused w refused act (Err refusal) = (w, refused refusal)
unless_refused w refused act (Ok a) = act a

-- what is written to a log must fit
abbrev pub within_log : World → Bool → Gone → Gone
within_log w fits gone = if fits then gone else (w, full log_table log_limit)

-- what moves leave of a controller
abbrev pub after_moves : World → Replica → List Move → Standing → Device → Outcome → Gone
after_moves w r moves standing device outcome =
    let m = fold moved (w.book, r) moves in
    (record w { book = m.0; replicas = with_replica w.replicas (record m.1 { standing = standing; device = device }) }, outcome)

-- a change is committed by four device calls, behind five of a checkpoint where it is due
abbrev pub committed : World → Replica → Pending → Outcome → Gone
committed w r p outcome =
    let g = commit_goes r p in after_moves w r (moves_of_commit p g) (standing_after Failed g) (device_after_commit r p) (outcome_after g outcome)

-- a change that the log has room for is committed
abbrev pub commit : World → Replica → Pending → Outcome → Gone
commit w r p outcome = within_log w (change_fits r.device.safe_log r.safe.store p.change) (committed w r p outcome)

-- a controller that showed that it was put back is quarantined before it refuses
abbrev pub quarantines : World → Replica → Outcome → Gone
quarantines w r refused = commit w r (record { call = ToQuarantine; change = quarantine r.safe }) refused

-- a client's call that makes a change commits it, and any other is answered alone
abbrev pub after_call : World → Replica → Call → Done → Gone
after_call w r call (told, None) = (w, told)
after_call w r call (told, Some change) = commit w r (record { call = call; change = change }) told

-- a controller does what a client calls for
abbrev pub does : World → Name → Call → Gone
does w name call = of_controller w name (stays w) (λ r. after_call w r call (done r.safe call))

-- ---- messages

-- what comes of a call that makes a message
abbrev pub Sent : Type 0 → Type 0
Sent A = World × Outcome × Option A

abbrev pub not_sent : {A : Type 0} → Gone → Sent A
not_sent g = (g.0, g.1, None)

abbrev pub nothing : {A : Type 0} → World → Outcome → Sent A
nothing w outcome = (w, outcome, None)

-- a controller asks another one; both have to be made
abbrev pub asks : World → Name → Name → ℕ → ℕ → Sent Request
asks w name partner max version =
    of_made (nothing w) (replica_at w name) (λ r. of_made (nothing w) (replica_at w partner) (λ p.
    where_up (nothing w) r.standing (w, outcomes.Ok, Some (ask r.safe p.safe.dsa max version))))

abbrev pub rows_in : Reply → ℕ
rows_in r = length (flat_map (λ (i : Item). i.rows) r.items)

-- a last reply of version 2 is noted
abbrev pub noted : World → Reply → World
noted w reply =
    record w {
      last_replies =
          if is_some reply.last && (reply.version == 2) then w.last_replies ++ record { inv = reply.inv; time = w.time; usn = reply.to.seen } ∷ [] else w.last_replies;
    }

abbrev pub after_serve : World → Replica → Result Reply ServeRefusal → Sent Reply
after_serve w r (Ok reply) = (noted w reply, outcomes.Served reply.from reply.to (length reply.items) (rows_in reply) (is_some reply.last), Some reply)
after_serve w r (Err (serves.RolledBack inv mine shown)) = not_sent (quarantines w r (serve_refused (serves.RolledBack inv mine shown)))
after_serve w r (Err refusal) = nothing w (serve_refused refusal)

abbrev pub served : World → Replica → Option Request → Sent Reply
served w r None = nothing w outcomes.Absent
served w r (Some q) = after_serve w r (serve r.safe q w.time)

-- a controller answers a request
abbrev pub serves_request : World → Name → Option Request → Sent Reply
serves_request w name q = of_controller w name (nothing w) (λ r. served w r q)

abbrev pub after_take : World → Replica → Reply → Result Change TakeRefusal → Gone
after_take w r reply (Ok change) =
    commit w r (record { call = ToTake reply; change = change }) (outcomes.Took (length reply.items) (length change.writes) change.usn)
after_take w r reply (Err (takes.RolledBack inv mine shown)) = quarantines w r (take_refused (takes.RolledBack inv mine shown))
after_take w r reply (Err refusal) = (w, take_refused refusal)

abbrev pub delivered : World → Replica → Option Reply → Gone
delivered w r None = (w, outcomes.Absent)
delivered w r (Some reply) = after_take w r reply (take r.safe reply)

-- a controller takes a reply
abbrev pub delivers : World → Name → Option Reply → Gone
delivers w name reply = of_controller w name (stays w) (λ r. delivered w r reply)

-- ---- images, snapshots and disks

abbrev pub backed_up : World → Option Store → Sent Store
backed_up w None = nothing w quarantined
backed_up w (Some image) = (w, outcomes.Ok, Some image)

-- a controller begins on a new disk, with a state of a fresh identifier
abbrev pub begins : World → (Replica → List Replica) → Name → State → Gone
begins w placed name s =
    within_log w (area_fits (new_log s) s.store) (record w { book = begun w.book s; replicas = placed (on_new_disk name s) }, outcomes.Ok)

abbrev pub adopts : World → (Replica → List Replica) → Name → Result State AdoptRefusal → Gone
adopts w placed name t = unless_refused w adopt_refused (begins w placed name) t

abbrev pub of_image : World → Option Store → (Store → Gone) → Gone
of_image w None act = (w, outcomes.Absent)
of_image w (Some image) act = act image

-- a snapshot is put back: from here on nothing is said of what controllers have in view
abbrev pub put_back : World → Name → Option Snapshot → Gone
put_back w name None = (w, outcomes.Absent)
put_back w name (Some s) = (record w { clean = false; replicas = with_replica w.replicas (on_disk name s.state s.log) }, outcomes.Ok)

abbrev pub with_plan : World → Replica → Plan → Gone
with_plan w r plan = (record w { replicas = with_replica w.replicas (record r { device = record r.device { plan = Some plan } }) }, outcomes.Ok)

abbrev pub stops : World → Replica → Gone
stops w r = after_moves w r (Settle ∷ []) Down (device_settled r) outcomes.Ok

abbrev pub started : World → Replica → Gone
started w r = let g = start_goes r in after_moves w r (moves_of_start g) (standing_after r.standing g) (device_after_start r) (outcome_after g outcomes.Ok)

abbrev pub starts : World → Replica → Standing → Gone
starts w r Up = (w, outcomes.Up)
starts w r Down = started w r
starts w r Failed = started w r
