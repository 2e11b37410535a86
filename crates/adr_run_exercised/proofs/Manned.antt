-- While no fault is planned and nobody is stopped, each controller is up, and who has come is there.
use Rattle.std.proofs.Common.{◌≡◌, ◌⊎◌, inl, inr, ⊎_elim, ◌+◌, ℕ, List, [], ◌∷◌, ◌++◌, Bool, true, false, cond, Option, Some, None, Result, Ok, Err, refl, sym, ap, ◌∙◌, subst, fold, length}
use Rattle.std.specs.Str.{bytes_eq}
use Rattle.adr_call.specs.declared.outcome.Outcome.{Outcome}
use Rattle.adr_call.specs.declared.outcome.Outcome.TheVariants as outcomes
use Rattle.adr_call.specs.declared.refusal.ServeRefusal.{ServeRefusal}
use Rattle.adr_call.specs.declared.refusal.ServeRefusal.TheVariants as serves
use Rattle.adr_call.specs.declared.refusal.TakeRefusal.{TakeRefusal}
use Rattle.adr_call.specs.declared.refusal.TakeRefusal.TheVariants as takes
use Rattle.adr_call.specs.declared.refusal.AdoptRefusal.{AdoptRefusal}
use Rattle.adr_call.specs.declared.event.Event.{Event}
use Rattle.adr_call.specs.declared.event.Event.TheVariants as events
use Rattle.adr_call.specs.declared.event.Coming.TheVariants as comings
use Rattle.adr_call.specs.declared.event.Made.TheVariants as mades
use Rattle.adr_model.specs.Member.{Member, Each}
use Rattle.adr_model.specs.Update.{Identifier}
use Rattle.adr_model.specs.Store.{Store, State, empty_state}
use Rattle.adr_model.specs.Change.{Change}
use Rattle.adr_model.specs.Lengths.{new_log, area_fits, change_fits}
use Rattle.adr_model.specs.Serve.{Request, Reply, serve}
use Rattle.adr_model.specs.Take.{take}
use Rattle.adr_model.specs.Collect.{backup, adopt, quarantine}
use Rattle.adr_model.specs.Refused.{serve_refused, take_refused}
use Rattle.adr_disk.specs.declared.memory.Plan.{Plan}
use Rattle.adr_model.specs.Client.{Done, call_meant, done}
use Rattle.adr_model.specs.Replica.{Call, Pending, ToTake, ToQuarantine, Up, Failed, Replica, on_new_disk, begun, moved, went, behind, calls_before, moves_of_commit, standing_after, commit_goes, device_after_commit}
use Rattle.adr_model.specs.World.{Name, World, Gone, Sent, stays, nothing, bound_at, replica_at, with_replica, of_made, of_controller, of_image, committed, commit, quarantines, asks, after_serve, served, serves_request, after_take, delivered, delivers, backed_up, adopts, after_call, does}
use Rattle.adr_model.specs.Cycles.{pull, pulls, pull_version}
use Rattle.adr_model.specs.Step.{gives, step, after_lines}
use Rattle.adr_model.proofs.Members.{member_left, member_of_either}
use Rattle.adr_law_convergence.proofs.Cycling.{no_plan_left}
use Rattle.adr_law_convergence.proofs.Exchanges.{IsKeptByCalls, worlds_alone, pull_so, pulls_so, goes_so}
use Rattle.adr_law_convergence.proofs.Found.{same_name, in_place, still_there}
use Rattle.adr_law_convergence.proofs.Reached.{made_case, up_case, reached_case, within_case}
use Rattle.adr_run_exercised.proofs.Mild.{IsMild, AreMild}

-- a controller that is up, with nothing planned for its disk
abbrev pub IsReady : Replica → Type 0
IsReady r = (r.standing ≡ Up) × (r.device.plan ≡ None)

-- each of these is so, and of each name there is one
pub record AreManned (names : List Name) (rs : List Replica) : Type 0 where
  pub ready : Each IsReady rs
  pub there : Each (λ x. (r : Replica) × Member r rs × (r.name ≡ x)) names

-- ---- commits

goes_through : (r : Replica) (p : Pending) → r.device.plan ≡ None → standing_after Failed (commit_goes r p) ≡ Up
goes_through r p none = ap (λ (o : Option Plan). standing_after Failed (behind (calls_before r p) (went o (calls_before r p + 4)))) none

-- ---- lists of controllers

module _ (names : List Name) where
  placed : (rs : List Replica) (new : Replica) → IsReady new → AreManned names rs → AreManned names (with_replica rs new)
  placed rs new is are = record { ready = ready; there = there }
    where
      ready : Each IsReady (with_replica rs new)
      ready q m = ⊎_elim (λ e. subst IsReady (sym e) is) (λ t. are.ready q t.0) (in_place rs new q m)

      there : Each (λ x. (r : Replica) × Member r (with_replica rs new) × (r.name ≡ x)) names
      there x m = let t = are.there x m in by t.0 (bytes_eq t.0.name new.name) refl (still_there rs new t.0 t.1) t.2
        where
          by : (q : Replica) (b : Bool) → bytes_eq q.name new.name ≡ b → Member (cond b new q) (with_replica rs new) → q.name ≡ x → (r : Replica) × Member r (with_replica rs new) × (r.name ≡ x)
          by q true is k e = (new, k, sym (same_name q.name new.name is) ∙ e)
          by q false is k e = (q, k, e)

  joined : (rs : List Replica) (new : Replica) → IsReady new → AreManned names rs → AreManned names (rs ++ new ∷ [])
  joined rs new is are = record { ready = ready; there = λ x m. let t = are.there x m in (t.0, member_left rs (new ∷ []) t.0 t.1, t.2) }
    where
      ready : Each IsReady (rs ++ new ∷ [])
      ready q m = by (member_of_either rs (new ∷ []) q m)
        where
          by : Member q rs ⊎ Member q (new ∷ []) → IsReady q
          by (inl k) = are.ready q k
          by (inr (inl e)) = subst IsReady (sym e) is
          by (inr (inr k)) = absurd k

  -- ---- calls

  abbrev Manned : World → Type 0
  Manned w = AreManned names w.replicas

  module _ (w : World) (are : Manned w) where
    abbrev Leaves : Gone → Type 0
    Leaves g = Manned g.0

    abbrev LeavesSent : {A : Type 0} → Sent A → Type 0
    LeavesSent t = Manned t.0

    commits : (r : Replica) → Member r w.replicas → (p : Pending) (outcome : Outcome) → Leaves (commit w r p outcome)
    commits r there p outcome = within_case Leaves w (change_fits r.device.safe_log r.safe.store p.change) (committed w r p outcome) are
        (placed w.replicas (record (fold moved (w.book, r) (moves_of_commit p (commit_goes r p))).1 { standing = standing_after Failed (commit_goes r p); device = device_after_commit r p })
        (goes_through r p (are.ready r there).1, no_plan_left r p (are.ready r there).1) are)

    quarantining : (r : Replica) → Member r w.replicas → (outcome : Outcome) → Leaves (quarantines w r outcome)
    quarantining r there outcome = commits r there (record { call = ToQuarantine; change = quarantine r.safe }) outcome

    called : (r : Replica) → Member r w.replicas → (call : Call) (d : Done) → Leaves (after_call w r call d)
    called r there call (told, None) = are
    called r there call (told, Some c) = commits r there (record { call = call; change = c }) told

    doing : (name : Name) (call : Call) → Leaves (does w name call)
    doing name call = reached_case Leaves w name (stays w) (λ x. are) (λ r. after_call w r call (done r.safe call)) (λ r reached up. called r reached.there call (done r.safe call))

    pub asking : (name partner : Name) (max version : ℕ) → LeavesSent (asks w name partner max version)
    asking name partner max version =
        made_case LeavesSent w name (nothing w) (λ x. are) _ (λ r is. made_case LeavesSent w partner (nothing w) (λ x. are) _ (λ p at. up_case LeavesSent w name (nothing w) (λ x. are) r.standing _ (λ up. are)))

    answered : (r : Replica) → Member r w.replicas → (t : Result Reply ServeRefusal) → LeavesSent (after_serve w r t)
    answered r there (Ok reply) = are
    answered r there (Err (serves.RolledBack inv mine shown)) = quarantining r there (serve_refused (serves.RolledBack inv mine shown))
    answered r there (Err x) = are

    serving_one : (r : Replica) → Member r w.replicas → (q : Option Request) → LeavesSent (served w r q)
    serving_one r there None = are
    serving_one r there (Some q) = answered r there (serve r.safe q w.time)

    pub serving : (name : Name) (q : Option Request) → LeavesSent (serves_request w name q)
    serving name q = reached_case LeavesSent w name (nothing w) (λ x. are) (λ r. served w r q) (λ r called up. serving_one r called.there q)

    took : (r : Replica) → Member r w.replicas → (reply : Reply) (t : Result Change TakeRefusal) → Leaves (after_take w r reply t)
    took r there reply (Ok c) = commits r there (record { call = ToTake reply; change = c }) (outcomes.Took (length reply.items) (length c.writes) c.usn)
    took r there reply (Err (takes.RolledBack inv mine shown)) = quarantining r there (take_refused (takes.RolledBack inv mine shown))
    took r there reply (Err x) = are

    took_one : (r : Replica) → Member r w.replicas → (o : Option Reply) → Leaves (delivered w r o)
    took_one r there None = are
    took_one r there (Some p) = took r there p (take r.safe p)

    pub delivering : (name : Name) (o : Option Reply) → Leaves (delivers w name o)
    delivering name o = reached_case Leaves w name (stays w) (λ x. are) (λ r. delivered w r o) (λ r called up. took_one r called.there o)

    backing_up : (name : Name) → LeavesSent (of_controller w name (nothing w) (λ r. backed_up w (backup r.safe)))
    backing_up name = reached_case LeavesSent w name (nothing w) (λ x. are) (λ r. backed_up w (backup r.safe)) (λ r called up. by (backup r.safe))
      where
        by : (o : Option Store) → LeavesSent (backed_up w o)
        by None = are
        by (Some image) = are

    adopted : (name : Name) (t : Result State AdoptRefusal) → Leaves (adopts w (with_replica w.replicas) name t)
    adopted name (Err x) = are
    adopted name (Ok s) = within_case Leaves w (area_fits (new_log s) s.store) (record w { book = begun w.book s; replicas = with_replica w.replicas (on_new_disk name s) }, outcomes.Ok) are (placed w.replicas (on_new_disk name s) (refl, refl) are)

    restoring : (name : Name) (o : Option Store) (inv : Identifier) → Leaves (of_made (stays w) (replica_at w name) (λ r. of_image w o (λ i. adopts w (with_replica w.replicas) name (adopt i r.safe.dsa inv))))
    restoring name o inv = made_case Leaves w name (stays w) (λ x. are) (λ r. of_image w o (λ i. adopts w (with_replica w.replicas) name (adopt i r.safe.dsa inv))) (λ r called. by r o)
      where
        by : (r : Replica) (o : Option Store) → Leaves (of_image w o (λ i. adopts w (with_replica w.replicas) name (adopt i r.safe.dsa inv)))
        by r None = are
        by r (Some i) = adopted name (adopt i r.safe.dsa inv)

  -- ---- pulls

  keeps_manned : IsKeptByCalls Manned (λ v q. Unit {0}) (λ v r. Unit {0}) (λ o. Unit {0})
  keeps_manned = worlds_alone Manned (λ w name partner max are. asking w are name partner max pull_version) (λ w name o are. serving w are name o) (λ w name o are. delivering w are name o)

  pub pulling_manned : (dest source : Name) (max : ℕ) (w : World) → Manned w → Manned (pull w dest source max).0
  pulling_manned dest source max w are = (pull_so Manned (λ v q. Unit {0}) (λ v r. Unit {0}) (λ o. Unit {0}) keeps_manned dest source max w are).0

  pub cycling_manned : (dest source : Name) (max n : ℕ) (w : World) → Manned w → Manned (pulls n w dest source max).0
  cycling_manned dest source max n w are = (pulls_so Manned (λ v q. Unit {0}) (λ v r. Unit {0}) (λ o. Unit {0}) keeps_manned dest source max n w are).0

  -- ---- lines

  pub stays_manned : (w : World) → Manned w → (e : Event) → IsMild true e → Manned (step w e).0
  stays_manned w are (events.Time now) is = are
  stays_manned w are (events.Comes name inv (comings.Fresh dsa)) is = joined w.replicas (on_new_disk name (empty_state dsa inv)) (refl, refl) are
  stays_manned w are (events.Comes name inv (comings.Restored image)) is = restoring (gives w [] (inv ∷ [])) are name (bound_at w.images image) inv
  stays_manned w are (events.Calls name what) is = doing w are name (call_meant what w.time)
  stays_manned w are (events.Binds name (mades.Ask partner max version) bind) is = asking w are name partner max version
  stays_manned w are (events.Binds name (mades.Serve request) bind) is = serving w are name (bound_at w.requests request)
  stays_manned w are (events.Binds name mades.Backup bind) is = backing_up w are name
  stays_manned w are (events.Goes name what) is = (goes_so Manned (λ v q. Unit {0}) (λ v r. Unit {0}) (λ o. Unit {0}) keeps_manned (λ n d v. tt) name what w are).0
  stays_manned w are e is = absurd is

  pub lines_manned : (es : List Event) (w : World) → AreMild true es → Manned w → Manned (after_lines w es)
  lines_manned [] w mild are = are
  lines_manned (e ∷ es) w mild are = lines_manned es (step w e).0 mild.1 (stays_manned w are e mild.0)
