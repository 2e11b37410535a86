-- What calls leave of a controller that is shut off, and what they answer in its name.
use Rattle.std.proofs.Common.{◌≡◌, ◌≢◌, ℕ, List, [], ◌∷◌, ◌++◌, Bool, true, false, Option, Some, None, Result, Ok, Err, refl, sym, ap, ◌∙◌, subst, fold, length}
use Rattle.adr_disk.specs.declared.memory.Crash.TheVariants.{Kept, Lost, Torn}
use Rattle.adr_call.specs.declared.outcome.Outcome.{Outcome}
use Rattle.adr_call.specs.declared.outcome.Outcome.TheVariants as outcomes
use Rattle.adr_call.specs.declared.event.Meeting.{Meeting}
use Rattle.adr_call.specs.declared.event.Meeting.TheVariants as meetings
use Rattle.adr_call.specs.declared.refusal.Table.TheVariants.{Log}
use Rattle.adr_call.specs.declared.refusal.ServeRefusal.{ServeRefusal}
use Rattle.adr_call.specs.declared.refusal.ServeRefusal.TheVariants as serves
use Rattle.adr_call.specs.declared.refusal.TakeRefusal.{TakeRefusal}
use Rattle.adr_call.specs.declared.refusal.TakeRefusal.TheVariants as takes
use Rattle.adr_call.specs.declared.refusal.AdoptRefusal.{AdoptRefusal}
use Rattle.adr_call.specs.declared.refusal.AdoptRefusal.TheVariants as adoptions
use Rattle.adr_model.specs.Update.{Identifier}
use Rattle.adr_model.specs.Store.{Quarantined, Store, State}
use Rattle.adr_model.specs.Change.{Change}
use Rattle.adr_model.specs.Serve.{Request, Reply, ask, serve}
use Rattle.adr_model.specs.Take.{take}
use Rattle.adr_model.specs.Collect.{backup, adopt, quarantine}
use Rattle.adr_model.specs.Lengths.{log_limit, new_log, area_fits, change_fits}
use Rattle.adr_model.specs.Refused.{serve_refused, take_refused, adopt_refused, full}
use Rattle.adr_disk.specs.declared.memory.Mishap.TheVariants.{Fails, Stops}
use Rattle.adr_disk.specs.declared.memory.Plan.{Plan}
use Rattle.adr_model.specs.Client.{Done, changed_over, collected, done, written}
use Rattle.adr_model.specs.Replica.{Call, Pending, ToWrite, ToTake, ToCollect, ToUpgrade, ToQuarantine, Standing, Up, Down, Failed, Replica, on_disk, on_new_disk, Book, begun, Move, Begin, Settle, Forget, moved, Went, Passed, Met, moves_of_commit, moves_of_start, standing_after, outcome_after, Device, commit_goes, start_goes, device_after_commit, device_after_start, device_settled}
use Rattle.adr_model.specs.World.{Name, World, Snapshot, Gone, Sent, stays, nothing, replica_at, with_replica, of_made, where_up, of_controller, within_log, committed, commit, after_call, does, asks, after_serve, served, serves_request, after_take, delivered, delivers, backed_up, begins, adopts, of_image, put_back, with_plan, stops, started, starts}
use Rattle.adr_model.specs.Step.{meets}
use Rattle.adr_law_rollback.specs.ShutOff.{RefusesAll, RestsAs, RestsIn, is_done}
use Rattle.adr_law_rollback.proofs.Placing.{name_case, FoundAmong, found_named, replaced, spared, first_stays, rests_too}
use Rattle.adr_law_rollback.proofs.Refusing.{refuses_all}

-- ---- whom a name reaches

module _ {A : Type 0} (Q : A → Type 0) (w : World) (n : Name) (other : Outcome → A) (absent : Q (other outcomes.Absent)) where
  pub made : (act : Replica → A) → ((r : Replica) → replica_at w n ≡ Some r → Q (act r)) → Q (of_made other (replica_at w n) act)
  made act acts = by (replica_at w n) refl
    where
      by : (o : Option Replica) → replica_at w n ≡ o → Q (of_made other o act)
      by None is = absent
      by (Some r) is = acts r is

  module _ (down : Q (other outcomes.Down)) (failed : Q (other outcomes.Failed)) where
    pub up_or_not : (standing : Standing) (gone : A) → Q gone → Q (where_up other standing gone)
    up_or_not Up gone goes = goes
    up_or_not Down gone goes = down
    up_or_not Failed gone goes = failed

    pub reached : (act : Replica → A) → ((r : Replica) → replica_at w n ≡ Some r → Q (act r)) → Q (of_controller w n other act)
    reached act acts = made (λ r. where_up other r.standing (act r)) (λ r is. up_or_not r.standing (act r) (acts r is))

within : (Q : Gone → Type 0) (w : World) (fits : Bool) (gone : Gone) → Q (w, full Log log_limit) → Q gone → Q (within_log w fits gone)
within Q w true gone refused goes = goes
within Q w false gone refused goes = refused

-- ---- what moves leave

moved_named : (m : Book × Replica) (move : Move) → (moved m move).1.name ≡ m.1.name
moved_named m (Begin p) = refl
moved_named m Settle = refl
moved_named m Forget = refl

all_moved_named : (ms : List Move) (m : Book × Replica) → (fold moved m ms).1.name ≡ m.1.name
all_moved_named [] m = refl
all_moved_named (move ∷ ms) m = all_moved_named ms (moved m move) ∙ moved_named m move

module _ (s : State) where
  other_standing : (r : Replica) → RestsAs s r → (standing : Standing) (device : Device) → RestsAs s (record r { standing = standing; device = device })
  other_standing r is standing device = record { safe = is.safe; read = is.read; kept = is.kept }

  settled_rests : (book : Book) (r : Replica) → RestsAs s r → RestsAs s (moved (book, r) Settle).1
  settled_rests book r is = record { safe = is.read; read = is.read; kept = refl }

  forgotten_rests : (book : Book) (r : Replica) → RestsAs s r → RestsAs s (moved (book, r) Forget).1
  forgotten_rests book r is = record { safe = is.safe; read = is.safe; kept = refl }

  start_rests : (book : Book) (r : Replica) → RestsAs s r → (g : Went) → RestsAs s (fold moved (book, r) (moves_of_start g)).1
  start_rests book r is (Passed left) = settled_rests book r is
  start_rests book r is (Met place Fails) = is
  start_rests book r is (Met place (Stops Lost)) = forgotten_rests book r is
  start_rests book r is (Met place (Stops Kept)) = settled_rests book r is
  start_rests book r is (Met place (Stops Torn)) = settled_rests book r is

-- what comes of a start is nothing that is done
start_not_done : (g : Went) → is_done (outcome_after g outcomes.Ok) ≡ false
start_not_done (Passed left) = refl
start_not_done (Met place (Stops how)) = refl
start_not_done (Met place Fails) = refl

adoption_not_done : (x : AdoptRefusal) → is_done (adopt_refused x) ≡ false
adoption_not_done adoptions.IdentifierUsed = refl
adoption_not_done (adoptions.Full table limit) = refl

-- a client's call makes no change, and no answer says that something was done
abbrev IsUndone : Done → Type 0
IsUndone d = (d.1 ≡ None) × (is_done d.0 ≡ false)

call_refused : (s : State) → RefusesAll s → (call : Call) → IsUndone (done s call)
call_refused s refuses (ToWrite what now) = subst (λ t. IsUndone (written t)) (sym (refuses.no_write what now)) (refl, refl)
call_refused s refuses (ToCollect now lifetime) = subst (λ t. IsUndone (collected t)) (sym (refuses.no_collection now lifetime)) (refl, refl)
call_refused s refuses ToUpgrade = subst (λ t. IsUndone (changed_over t)) (sym refuses.no_upgrade) (refl, refl)
call_refused s refuses (ToTake reply) = (refl, refl)
call_refused s refuses ToQuarantine = (refl, refl)

-- ---- calls in a world where the controller of a name is shut off

module _ (name : Name) (s : State) (closed : s.mode ≡ Quarantined) where
  -- among these controllers it is
  abbrev Among : List Replica → Type 0
  Among rs = (r : Replica) × FoundAmong rs name r × RestsAs s r

  -- behind a call of a controller it is shut off still, and where the call was its own nothing was done
  abbrev pub Holds : Name → Gone → Type 0
  Holds n g = RestsIn s g.0 name × (n ≡ name → is_done g.1 ≡ false)

  abbrev pub HoldsSent : {A : Type 0} → Name → Sent A → Type 0
  HoldsSent n t = RestsIn s t.0 name × (n ≡ name → is_done t.1 ≡ false)

  module _ (w : World) (i : RestsIn s w name) where
    put_in : (new : Replica) → (new.name ≡ name → RestsAs s new) → Among (with_replica w.replicas new)
    put_in new rests = name_case (Among (with_replica w.replicas new)) new.name name
        (λ e. (new, replaced w.replicas new i.0 name e i.1, rests e))
        (λ differ. (i.0, spared w.replicas new i.0 name differ i.1, i.2))

    comes : (new : Replica) → Among (w.replicas ++ new ∷ [])
    comes new = (i.0, first_stays w.replicas (new ∷ []) i.0 name i.1, i.2)

    module _ (n : Name) (r : Replica) (found : replica_at w n ≡ Some r) where
      rests : n ≡ name → RestsAs s r
      rests e = rests_too s w name r i (subst (λ m. replica_at w m ≡ Some r) e found)

      own_name : r.name ≡ name → n ≡ name
      own_name e = sym (found_named w.replicas n r found) ∙ e

      refuses : n ≡ name → RefusesAll r.safe
      refuses e = refuses_all r.safe (ap (λ (x : State). x.mode) (rests e).safe ∙ closed)

      moves : (ms : List Move) (standing : Standing) (device : Device) → (n ≡ name → RestsAs s (fold moved (w.book, r) ms).1)
          → Among (with_replica w.replicas (record (fold moved (w.book, r) ms).1 { standing = standing; device = device }))
      moves ms standing device rest = put_in (record (fold moved (w.book, r) ms).1 { standing = standing; device = device })
          (λ e. other_standing s (fold moved (w.book, r) ms).1 (rest (own_name (sym (all_moved_named ms (w.book, r)) ∙ e))) standing device)

      -- a call of another one
      module _ (differ : n ≢ name) where
        commits : (p : Pending) (o : Outcome) → RestsIn s (commit w r p o).0 name
        commits p o = within (λ g. RestsIn s g.0 name) w (change_fits r.device.safe_log r.safe.store p.change) (committed w r p o) i
            (moves (moves_of_commit p (commit_goes r p)) (standing_after Failed (commit_goes r p)) (device_after_commit r p) (λ e. absurd (differ e)))

        abbrev put_back_by : Pending
        put_back_by = record { call = ToQuarantine; change = quarantine r.safe }

        other_called : (call : Call) (d : Done) → RestsIn s (after_call w r call d).0 name
        other_called call (told, None) = i
        other_called call (told, Some c) = commits (record { call = call; change = c }) told

        other_took : (reply : Reply) (t : Result Change TakeRefusal) → RestsIn s (after_take w r reply t).0 name
        other_took reply (Ok c) = commits (record { call = ToTake reply; change = c }) (outcomes.Took (length reply.items) (length c.writes) c.usn)
        other_took reply (Err (takes.RolledBack inv mine shown)) = commits put_back_by (take_refused (takes.RolledBack inv mine shown))
        other_took reply (Err x) = i

        other_served : (t : Result Reply ServeRefusal) → RestsIn s (after_serve w r t).0 name
        other_served (Ok reply) = i
        other_served (Err (serves.RolledBack inv mine shown)) = commits put_back_by (serve_refused (serves.RolledBack inv mine shown))
        other_served (Err x) = i

      -- a call of either
      called : (call : Call) → Holds n (after_call w r call (done r.safe call))
      called call = name_case (Holds n (after_call w r call (done r.safe call))) n name
          (λ e. own call (done r.safe call) (call_refused r.safe (refuses e) call))
          (λ differ. (other_called differ call (done r.safe call), λ e. absurd (differ e)))
        where
          own : (call : Call) (d : Done) → IsUndone d → Holds n (after_call w r call d)
          own call (told, None) is = (i, λ f. is.1)
          own call (told, Some c) is = absurd (cc is.0)

      took : (reply : Reply) → Holds n (after_take w r reply (take r.safe reply))
      took reply = name_case (Holds n (after_take w r reply (take r.safe reply))) n name
          (λ e. subst (λ t. Holds n (after_take w r reply t)) (sym ((refuses e).no_take reply)) (i, λ f. refl))
          (λ differ. (other_took differ reply (take r.safe reply), λ e. absurd (differ e)))

      sent : (q : Request) → HoldsSent n (after_serve w r (serve r.safe q w.time))
      sent q = name_case (HoldsSent n (after_serve w r (serve r.safe q w.time))) n name
          (λ e. subst (λ t. HoldsSent n (after_serve w r t)) (sym ((refuses e).no_serve q w.time)) (i, λ f. refl))
          (λ differ. (other_served differ (serve r.safe q w.time), λ e. absurd (differ e)))

      took_one : (o : Option Reply) → Holds n (delivered w r o)
      took_one None = (i, λ e. refl)
      took_one (Some reply) = took reply

      sent_one : (o : Option Request) → HoldsSent n (served w r o)
      sent_one None = (i, λ e. refl)
      sent_one (Some q) = sent q

      planned : (plan : Plan) → Holds n (with_plan w r plan)
      planned plan = (put_in (record r { device = record r.device { plan = Some plan } }) (λ e. other_standing s r (rests (own_name e)) r.standing (record r.device { plan = Some plan })), λ e. refl)

      stopped : Holds n (stops w r)
      stopped = (moves (Settle ∷ []) Down (device_settled r) (λ e. settled_rests s w.book r (rests e)), λ e. refl)

      begun_again : Holds n (started w r)
      begun_again = (
        moves (moves_of_start (start_goes r)) (standing_after r.standing (start_goes r)) (device_after_start r)
            (λ e. start_rests s w.book r (rests e) (start_goes r)),
        λ e. start_not_done (start_goes r),
      )

      started_or_up : (standing : Standing) → Holds n (starts w r standing)
      started_or_up Up = (i, λ e. refl)
      started_or_up Down = begun_again
      started_or_up Failed = begun_again

      met : (what : Meeting) → Holds n (meets w r what)
      met meetings.Stop = stopped
      met meetings.Start = started_or_up r.standing
      met (meetings.StopAfter calls how) = planned (record { calls = calls; mishap = Stops how })
      met (meetings.Fail calls) = planned (record { calls = calls; mishap = Fails })

    module _ (n : Name) where
      plain : {A : Type 0} (Q : A → Type 0) (other : Outcome → A) → ((o : Outcome) → is_done o ≡ false → Q (other o)) → (act : Replica → A)
          → ((r : Replica) → replica_at w n ≡ Some r → Q (act r)) → Q (of_controller w n other act)
      plain Q other others act acts = reached Q w n other (others outcomes.Absent refl) (others outcomes.Down refl) (others outcomes.Failed refl) act acts

      stay : (o : Outcome) → is_done o ≡ false → Holds n (stays w o)
      stay o is = (i, λ e. is)

      none_sent : (A : Type 0) (o : Outcome) → is_done o ≡ false → HoldsSent {A = A} n (nothing w o)
      none_sent A o is = (i, λ e. is)

      pub calls_hold : (call : Call) → Holds n (does w n call)
      calls_hold call = plain (Holds n) (stays w) stay (λ r. after_call w r call (done r.safe call)) (λ r found. called n r found call)

      pub delivers_hold : (o : Option Reply) → Holds n (delivers w n o)
      delivers_hold o = plain (Holds n) (stays w) stay (λ r. delivered w r o) (λ r found. took_one n r found o)

      pub serves_hold : (o : Option Request) → HoldsSent n (serves_request w n o)
      serves_hold o = plain (HoldsSent n) (nothing w) (none_sent Reply) (λ r. served w r o) (λ r found. sent_one n r found o)

      pub asks_hold : (partner : Name) (max version : ℕ) → HoldsSent n (asks w n partner max version)
      asks_hold partner max version = made (HoldsSent n) w n (nothing w) (i, λ e. refl) _ (λ r found. made (HoldsSent n) w partner (nothing w) (i, λ e. refl) _
          (λ p at. up_or_not (HoldsSent n) w n (nothing w) (i, λ e. refl) (i, λ e. refl) (i, λ e. refl) r.standing (w, outcomes.Ok, Some (ask r.safe p.safe.dsa max version)) (i, λ e. refl)))

      pub backs_up_hold : HoldsSent n (of_controller w n (nothing w) (λ r. backed_up w (backup r.safe)))
      backs_up_hold = plain (HoldsSent n) (nothing w) (none_sent Store) (λ r. backed_up w (backup r.safe)) (λ r found. by (backup r.safe))
        where
          by : (o : Option Store) → HoldsSent n (backed_up w o)
          by None = (i, λ e. refl)
          by (Some image) = (i, λ e. refl)

      abbrev pub copied : Sent Snapshot
      copied = of_made (nothing w) (replica_at w n) (λ r. (w, outcomes.Ok, Some (record { state = r.read; log = r.device.read_log })))

      pub copies_hold : HoldsSent n copied
      copies_hold = made (HoldsSent n) w n (nothing w) (i, λ e. refl) (λ r. (w, outcomes.Ok, Some (record { state = r.read; log = r.device.read_log }))) (λ r found. (i, λ e. refl))

      pub meets_hold : (what : Meeting) → Holds n (of_made (stays w) (replica_at w n) (λ r. meets w r what))
      meets_hold what = made (Holds n) w n (stays w) (i, λ e. refl) (λ r. meets w r what) (λ r found. met n r found what)

      pub reports_hold : (what : Replica → Outcome) → ((r : Replica) → is_done (what r) ≡ false) → Holds n (of_controller w n (stays w) (λ r. (w, what r)))
      reports_hold what is = plain (Holds n) (stays w) stay (λ r. (w, what r)) (λ r found. (i, λ e. is r))

      -- ---- new disks

      begins_hold : (placed : Replica → List Replica) (t : State) → Among (placed (on_new_disk n t)) → Holds n (begins w placed n t)
      begins_hold placed t among =
          within (Holds n) w (area_fits (new_log t) t.store) (record w { book = begun w.book t; replicas = placed (on_new_disk n t) }, outcomes.Ok) (i, λ e. refl) (among, λ e. refl)

      adopts_hold : (placed : Replica → List Replica) → ((t : State) → Among (placed (on_new_disk n t))) → (o : Option Store) (dsa inv : Store → Identifier)
          → Holds n (of_image w o (λ image. adopts w placed n (adopt image (dsa image) (inv image))))
      adopts_hold placed among None dsa inv = (i, λ e. refl)
      adopts_hold placed among (Some image) dsa inv = by (adopt image (dsa image) (inv image))
        where
          by : (t : Result State AdoptRefusal) → Holds n (adopts w placed n t)
          by (Err x) = (i, λ e. adoption_not_done x)
          by (Ok t) = begins_hold placed t (among t)

      pub installs_hold : (o : Option Store) (dsa inv : Identifier) → Holds n (of_image w o (λ image. adopts w (λ r. w.replicas ++ r ∷ []) n (adopt image dsa inv)))
      installs_hold o dsa inv = adopts_hold (λ r. w.replicas ++ r ∷ []) (λ t. comes (on_new_disk n t)) o (λ image. dsa) (λ image. inv)

      module _ (differ : n ≢ name) where
        pub restores_hold : (o : Option Store) (inv : Identifier)
            → Holds n (of_made (stays w) (replica_at w n) (λ r. of_image w o (λ image. adopts w (with_replica w.replicas) n (adopt image r.safe.dsa inv))))
        restores_hold o inv = made (Holds n) w n (stays w) (i, λ e. refl) (λ r. of_image w o (λ image. adopts w (with_replica w.replicas) n (adopt image r.safe.dsa inv)))
            (λ r found. adopts_hold (with_replica w.replicas) (λ t. put_in (on_new_disk n t) (λ e. absurd (differ e))) o (λ image. r.safe.dsa) (λ image. inv))

        pub rollbacks_hold : (o : Option Snapshot) → Holds n (of_made (stays w) (replica_at w n) (λ r. put_back w n o))
        rollbacks_hold o = made (Holds n) w n (stays w) (i, λ e. refl) (λ r. put_back w n o) (λ r found. by o)
          where
            by : (p : Option Snapshot) → Holds n (put_back w n p)
            by None = (i, λ e. refl)
            by (Some t) = (put_in (on_disk n t.state t.log) (λ e. absurd (differ e)), λ e. refl)
