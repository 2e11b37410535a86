-- Behind a call of a controller the world is as it was, or a change that the call makes is committed: what holds of both holds behind every call.
use Rattle.std.proofs.Common.{◌≡◌, ◌≢◌, ℕ, true, List, [], ◌∷◌, Option, Some, None, Result, Ok, Err, refl, ap, length}
use Rattle.adr_call.specs.declared.outcome.Outcome.{Outcome}
use Rattle.adr_call.specs.declared.outcome.Outcome.TheVariants as outcomes
use Rattle.adr_call.specs.declared.event.Meeting.{Meeting}
use Rattle.adr_call.specs.declared.refusal.ServeRefusal.{ServeRefusal}
use Rattle.adr_call.specs.declared.refusal.ServeRefusal.TheVariants as serves
use Rattle.adr_call.specs.declared.refusal.TakeRefusal.{TakeRefusal}
use Rattle.adr_call.specs.declared.refusal.TakeRefusal.TheVariants as takes
use Rattle.adr_model.specs.Member.{Member}
use Rattle.adr_model.specs.Store.{Store}
use Rattle.adr_model.specs.Change.{Change}
use Rattle.adr_model.specs.Lengths.{change_fits}
use Rattle.adr_model.specs.Serve.{Request, Reply, serve}
use Rattle.adr_model.specs.Client.{Done, done}
use Rattle.adr_model.specs.Take.{take}
use Rattle.adr_model.specs.Collect.{backup, quarantine}
use Rattle.adr_model.specs.Refused.{serve_refused, take_refused}
use Rattle.adr_disk.specs.declared.memory.Plan.{Plan}
use Rattle.adr_model.specs.Replica.{Call, Pending, change_in, change_of, ToTake, ToQuarantine, Standing, Up, Down, Failed, Replica, Move, Settle, moves_of_commit, moves_of_start, standing_after, Device, commit_goes, start_goes, device_after_commit, device_after_start, device_settled}
use Rattle.adr_model.specs.World.{Name, World, Gone, Sent, stays, nothing, replica_at, of_made, of_controller, committed, commit, quarantines, after_call, does, noted, asks, after_serve, served, serves_request, after_take, delivered, delivers, backed_up, after_moves}
use Rattle.adr_model.specs.Step.{meets}
use Rattle.adr_model.proofs.Calling.{done_changes}
use Rattle.adr_law_convergence.proofs.Reached.{made_case, up_case, reached_case, fits_case, meets_case}

-- what calls of controllers keep of a world: such a call that isn't refused is committed where the log has room for its change
pub record IsKeptBehind (Q : World → Type 0) (May : Call → Type 0) (w : World) : Type 0 where
  pub same : Q w
  pub notes : (reply : Reply) → Q (noted w reply)
  pub commits :
      (r : Replica) → Member r w.replicas → r.standing ≡ Up → (p : Pending) → May p.call → change_of r.safe p.call ≡ Some p.change → change_fits r.device.safe_log r.safe.store p.change ≡ true
      → Q (after_moves w r (moves_of_commit p (commit_goes r p)) (standing_after Failed (commit_goes r p)) (device_after_commit r p) outcomes.Ok).0
  pub starts : (r : Replica) → Member r w.replicas → r.standing ≢ Up → Q (after_moves w r (moves_of_start (start_goes r)) (standing_after r.standing (start_goes r)) (device_after_start r) outcomes.Ok).0
  pub stops : (r : Replica) → Member r w.replicas → Q (after_moves w r (Settle ∷ []) Down (device_settled r) outcomes.Ok).0
  pub plans : (r : Replica) → Member r w.replicas → (plan : Plan) → Q (after_moves w r [] r.standing (record r.device { plan = Some plan }) outcomes.Ok).0

abbrev pub AnyCall : Call → Type 0
AnyCall call = Unit {0}

-- where whatever moves keep it
pub by_moves : (Q : World → Type 0) (w : World) → Q w → ((reply : Reply) → Q (noted w reply)) → ((r : Replica) → Member r w.replicas → (ms : List Move) (standing : Standing) (device : Device) → Q (after_moves w r ms standing device outcomes.Ok).0)
    → IsKeptBehind Q AnyCall w
by_moves Q w same notes moves = record {
  same = same;
  notes = notes;
  commits = λ r there up p may made fits. moves r there (moves_of_commit p (commit_goes r p)) (standing_after Failed (commit_goes r p)) (device_after_commit r p);
  starts = λ r there not_up. moves r there (moves_of_start (start_goes r)) (standing_after r.standing (start_goes r)) (device_after_start r);
  stops = λ r there. moves r there (Settle ∷ []) Down (device_settled r);
  plans = λ r there plan. moves r there [] r.standing (record r.device { plan = Some plan });
}

module _ (Q : World → Type 0) (May : Call → Type 0) (w : World) (keeps : IsKeptBehind Q May w) where
  abbrev Behind : Gone → Type 0
  Behind g = Q g.0

  abbrev Sent_so : {A : Type 0} → Sent A → Type 0
  Sent_so t = Q t.0

  module _ (r : Replica) (there : Member r w.replicas) where
    module _ (up : r.standing ≡ Up) where
      commits : (p : Pending) (outcome : Outcome) → May p.call → change_of r.safe p.call ≡ Some p.change → Behind (commit w r p outcome)
      commits p outcome may made = fits_case Behind w (change_fits r.device.safe_log r.safe.store p.change) (committed w r p outcome) keeps.same (λ fits. keeps.commits r there up p may made fits)

      quarantining : May ToQuarantine → (outcome : Outcome) → Behind (quarantines w r outcome)
      quarantining may outcome = commits (record { call = ToQuarantine; change = quarantine r.safe }) outcome may refl

      called : (call : Call) → May call → (d : Done) → done r.safe call ≡ d → Behind (after_call w r call d)
      called call may (told, None) e = keeps.same
      called call may (told, Some c) e = commits (record { call = call; change = c }) told may (done_changes r.safe call c (ap (λ (d : Done). d.1) e))

      taken : May ToQuarantine → (reply : Reply) → May (ToTake reply) → (t : Result Change TakeRefusal) → take r.safe reply ≡ t → Behind (after_take w r reply t)
      taken shut reply may (Ok c) e = commits (record { call = ToTake reply; change = c }) (outcomes.Took (length reply.items) (length c.writes) c.usn) may (ap change_in e)
      taken shut reply may (Err (takes.RolledBack inv mine shown)) e = quarantining shut (take_refused (takes.RolledBack inv mine shown))
      taken shut reply may (Err x) e = keeps.same

      answered : May ToQuarantine → (t : Result Reply ServeRefusal) → Sent_so (after_serve w r t)
      answered shut (Ok reply) = keeps.notes reply
      answered shut (Err (serves.RolledBack inv mine shown)) = quarantining shut (serve_refused (serves.RolledBack inv mine shown))
      answered shut (Err x) = keeps.same

      served_one : May ToQuarantine → (q : Option Request) → Sent_so (served w r q)
      served_one shut None = keeps.same
      served_one shut (Some q) = answered shut (serve r.safe q w.time)

      delivered_one : May ToQuarantine → (o : Option Reply) → ((p : Reply) → o ≡ Some p → May (ToTake p)) → Behind (delivered w r o)
      delivered_one shut None may = keeps.same
      delivered_one shut (Some p) may = taken shut p (may p refl) (take r.safe p) refl

  pub calls_so : (name : Name) (call : Call) → May call → Behind (does w name call)
  calls_so name call may = reached_case Behind w name (stays w) (λ x. keeps.same) (λ r. after_call w r call (done r.safe call)) (λ r reached up. called r reached.there up call may (done r.safe call) refl)

  pub asks_so : (name partner : Name) (max version : ℕ) → Sent_so (asks w name partner max version)
  asks_so name partner max version =
      made_case Sent_so w name (nothing w) (λ x. keeps.same) _ (λ r is. made_case Sent_so w partner (nothing w) (λ x. keeps.same) _ (λ p at. up_case Sent_so w name (nothing w) (λ x. keeps.same) r.standing _ (λ up. keeps.same)))

  pub serves_so : (name : Name) (q : Option Request) → May ToQuarantine → Sent_so (serves_request w name q)
  serves_so name q shut = reached_case Sent_so w name (nothing w) (λ x. keeps.same) (λ r. served w r q) (λ r called up. served_one r called.there up shut q)

  pub delivers_so : (name : Name) (o : Option Reply) → May ToQuarantine → ((p : Reply) → o ≡ Some p → May (ToTake p)) → Behind (delivers w name o)
  delivers_so name o shut may = reached_case Behind w name (stays w) (λ x. keeps.same) (λ r. delivered w r o) (λ r called up. delivered_one r called.there up shut o may)

  pub backs_up_so : (name : Name) → Sent_so (of_controller w name (nothing w) (λ r. backed_up w (backup r.safe)))
  backs_up_so name = reached_case Sent_so w name (nothing w) (λ x. keeps.same) (λ r. backed_up w (backup r.safe)) (λ r called up. by (backup r.safe))
    where
      by : (o : Option Store) → Sent_so (backed_up w o)
      by None = keeps.same
      by (Some image) = keeps.same

  pub meets_so : (name : Name) (what : Meeting) → Behind (of_made (stays w) (replica_at w name) (λ r. meets w r what))
  meets_so name = meets_case Behind w name (λ o plain. keeps.same) (λ r is. keeps.stops r is.there) (λ r is. keeps.starts r is.there) (λ r is. keeps.plans r is.there)

  pub reports_so : (name : Name) (what : Replica → Outcome) → Behind (of_controller w name (stays w) (λ r. (w, what r)))
  reports_so name what = reached_case Behind w name (stays w) (λ x. keeps.same) (λ r. (w, what r)) (λ r called up. keeps.same)
