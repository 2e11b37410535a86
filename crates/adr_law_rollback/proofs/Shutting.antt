-- A controller that finds out that its database was put back answers so, and is shut off.
use Rattle.std.proofs.Common.{◌+◌, ◌≡◌, Bool, Option, Some, None, refl, sym, ap, ◌∙◌, subst, fold, if◌then◌else◌}
use Rattle.adr_call.specs.declared.outcome.Outcome.{Outcome}
use Rattle.adr_call.specs.declared.refusal.Table.TheVariants.{Log}
use Rattle.adr_call.specs.declared.refusal.ServeRefusal.TheVariants as serves
use Rattle.adr_call.specs.declared.refusal.TakeRefusal.TheVariants as takes
use Rattle.adr_values.specs.Vector.{at}
use Rattle.adr_model.specs.Change.{Change, after}
use Rattle.adr_model.specs.Lengths.{log_limit}
use Rattle.adr_model.specs.Collect.{quarantine}
use Rattle.adr_model.specs.Serve.{Reply, shown_by}
use Rattle.adr_model.specs.Refused.{full, serve_refused, take_refused}
use Rattle.adr_disk.specs.declared.memory.Plan.{Plan}
use Rattle.adr_model.specs.Replica.{Pending, ToQuarantine, Up, Failed, Replica, recorded, moved, went, moves_of_commit, standing_after, outcome_after, calls_before, behind as behind_calls, device_after_commit}
use Rattle.adr_model.specs.World.{Name, World, Gone, Sent, stays, nothing, not_sent, with_replica, of_made, where_up, committed, quarantines, after_serve, served, serves_request, after_take, delivered, delivers}
use Rattle.adr_law_rollback.specs.Found.{IsReady, IsShutOffNow, ServingShutsOff, TakingShutsOff}
use Rattle.adr_law_rollback.proofs.Placing.{found_named, replaced}
use Rattle.adr_law_rollback.proofs.Finding.{found_by_serving, found_by_taking}

module _ (w : World) (name : Name) (r : Replica) (ready : IsReady w name r) where
  abbrev change : Change
  change = quarantine r.safe

  abbrev pending : Pending
  pending = record { call = ToQuarantine; change = change }

  -- the controller and the world behind its quarantine
  abbrev next : Replica
  next = record r { read = after r.safe change; safe = after r.safe change; kept = None; standing = Up; device = device_after_commit r pending }

  abbrev behind : World
  behind = record w { book = recorded w.book r.safe.inv pending; replicas = with_replica w.replicas next }

  committed_is : (o : Outcome) → committed w r pending o ≡ (behind, o)
  committed_is o = ap (λ (p : Option Plan). let g = behind_calls (calls_before r pending) (went p (calls_before r pending + 4)) in let m = fold moved (w.book, r) (moves_of_commit pending g) in (
    record w { book = m.0; replicas = with_replica w.replicas (record m.1 { standing = standing_after Failed g; device = device_after_commit r pending }) },
    outcome_after g o,
  )) ready.unplanned

  pub quarantines_it : (o : Outcome) → quarantines w r o ≡ (behind, o)
  quarantines_it o = ap (λ (b : Bool). if b then committed w r pending o else (w, full Log log_limit)) ready.room ∙ committed_is o

  pub shut_off : IsShutOffNow behind name r
  shut_off =
      (next, replaced w.replicas next r name (found_named w.replicas name r ready.found) ready.found, record { safe = refl; read = refl; kept = refl })

pub serving_shuts_off : ServingShutsOff
serving_shuts_off w name r q ready is more =
    (ap (λ (t : Sent Reply). t.1) all, subst (λ (t : Sent Reply). IsShutOffNow t.0 name r) (sym all) (shut_off w name r ready))
  where
    all : serves_request w name (Some q) ≡ (behind w name r ready, serve_refused (serves.RolledBack r.safe.inv r.safe.store.usn (shown_by r.safe q)), None)
    all =
        ap (λ p. of_made (nothing w) p (λ x. where_up (nothing w) x.standing (served w x (Some q)))) ready.found
        ∙ (ap (λ st. where_up (nothing w) st (served w r (Some q))) ready.up
        ∙ (ap (after_serve w r) (found_by_serving r.safe q is more w.time)
        ∙ ap not_sent (quarantines_it w name r ready (serve_refused (serves.RolledBack r.safe.inv r.safe.store.usn (shown_by r.safe q))))))

pub taking_shuts_off : TakingShutsOff
taking_shuts_off w name r p theirs ready is more =
    (ap (λ (g : Gone). g.1) all, subst (λ (g : Gone). IsShutOffNow g.0 name r) (sym all) (shut_off w name r ready))
  where
    all : delivers w name (Some p) ≡ (behind w name r ready, take_refused (takes.RolledBack r.safe.inv r.safe.store.usn (at theirs r.safe.inv)))
    all =
        ap (λ x. of_made (stays w) x (λ y. where_up (stays w) y.standing (delivered w y (Some p)))) ready.found
        ∙ (ap (λ st. where_up (stays w) st (delivered w r (Some p))) ready.up
        ∙ (ap (after_take w r p) (found_by_taking r.safe p theirs is more)
        ∙ quarantines_it w name r ready (take_refused (takes.RolledBack r.safe.inv r.safe.store.usn (at theirs r.safe.inv)))))
