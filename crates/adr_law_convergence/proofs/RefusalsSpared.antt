-- What holds of plain outcomes, of a USN and of how requests and replies are refused holds of each answer to a line.
use Rattle.std.proofs.Common.{◌≡◌, ℕ, Option, Some, None, Result, Ok, Err, refl, length}
use Rattle.adr_call.specs.declared.answer.Answer.{Answer}
use Rattle.adr_call.specs.declared.outcome.Outcome.{Outcome}
use Rattle.adr_call.specs.declared.outcome.Outcome.TheVariants as outcomes
use Rattle.adr_call.specs.declared.event.Event.{Event}
use Rattle.adr_call.specs.declared.event.Exchange.{Exchange}
use Rattle.adr_call.specs.declared.refusal.WriteRefusal.{WriteRefusal}
use Rattle.adr_call.specs.declared.refusal.ServeRefusal.{ServeRefusal}
use Rattle.adr_call.specs.declared.refusal.ServeRefusal.TheVariants as serves
use Rattle.adr_call.specs.declared.refusal.TakeRefusal.{TakeRefusal}
use Rattle.adr_call.specs.declared.refusal.TakeRefusal.TheVariants as takes
use Rattle.adr_model.specs.Member.{Member, Each}
use Rattle.adr_model.specs.Change.{Change}
use Rattle.adr_model.specs.Serve.{Request, Reply, serve}
use Rattle.adr_model.specs.Write.{Write, write}
use Rattle.adr_model.specs.Take.{take}
use Rattle.adr_call.specs.declared.refusal.Table.TheVariants.{Log}
use Rattle.adr_model.specs.Collect.{quarantine}
use Rattle.adr_model.specs.Lengths.{log_limit, change_fits}
use Rattle.adr_model.specs.Refused.{write_refused, serve_refused, take_refused, full}
use Rattle.adr_model.specs.Client.{done, written}
use Rattle.adr_model.specs.Replica.{Call, Pending, ToWrite, ToTake, ToQuarantine, Replica, commit_goes}
use Rattle.adr_model.specs.World.{Name, World, Gone, Sent, stays, nothing, bound_at, committed, commit, after_call, does, after_serve, served, serves_request, after_take, delivered, delivers}
use Rattle.adr_model.specs.Step.{goes, step}
use Rattle.adr_model.specs.Convergence.{MayHappen}
use Rattle.adr_law_convergence.proofs.Refusals.{IsPlain, write_refused_plainly, after_calls}
use Rattle.adr_law_convergence.proofs.RefusalsPlain.{line_case}
use Rattle.adr_law_convergence.proofs.Reached.{plain_reached, within_case}
use Rattle.adr_model.specs.Store.{Store}
use Rattle.adr_model.specs.Formed.{IsFormedStore}

module _ (P : Outcome → Type 0) (plain : (o : Outcome) → IsPlain o → P o) (w : World) where
  -- an answer behind a commit
  after_all : (r : Replica) (p : Pending) (o : Outcome) → P o → P (commit w r p o).1
  after_all r p o is = within_case (λ (g : Gone). P g.1) w (change_fits r.device.safe_log r.safe.store p.change) (committed w r p o) (plain (full Log log_limit) refl) (after_calls P plain o is (commit_goes r p))

  refused_request : (r : Replica) (x : ServeRefusal) → P (serve_refused x) → P (after_serve w r (Err x)).1
  refused_request r (serves.RolledBack inv mine shown) is = after_all r (record { call = ToQuarantine; change = quarantine r.safe }) (serve_refused (serves.RolledBack inv mine shown)) is
  refused_request r _ is = is

  pub serves_so : (name : Name) (o : Option Request) → ((r : Replica) → Member r w.replicas → (q : Request) → o ≡ Some q → (x : ServeRefusal) → serve r.safe q w.time ≡ Err x → P (serve_refused x)) → P (serves_request w name o).1
  serves_so name o serving = plain_reached (λ (t : Sent Reply). P t.1) w name (nothing w) plain (λ r. served w r o) (λ r is up. of r is.there o refl)
    where
      of : (r : Replica) → Member r w.replicas → (p : Option Request) → o ≡ p → P (served w r p).1
      of r there None is = plain outcomes.Absent refl
      of r there (Some q) is = by (serve r.safe q w.time) refl
        where
          by : (t : Result Reply ServeRefusal) → serve r.safe q w.time ≡ t → P (after_serve w r t).1
          by (Ok reply) e = plain (after_serve w r (Ok reply)).1 refl
          by (Err x) e = refused_request r x (serving r there q is x e)

  refused_reply : (r : Replica) (p : Reply) (x : TakeRefusal) → P (take_refused x) → P (after_take w r p (Err x)).1
  refused_reply r p (takes.RolledBack inv mine shown) is = after_all r (record { call = ToQuarantine; change = quarantine r.safe }) (take_refused (takes.RolledBack inv mine shown)) is
  refused_reply r p _ is = is

  pub takes_so : (name : Name) (o : Option Reply) → ((r : Replica) → Member r w.replicas → (p : Reply) → o ≡ Some p → (x : TakeRefusal) → take r.safe p ≡ Err x → P (take_refused x)) → P (delivers w name o).1
  takes_so name o taking = plain_reached (λ (g : Gone). P g.1) w name (stays w) plain (λ r. delivered w r o) (λ r is up. of r is.there o refl)
    where
      of : (r : Replica) → Member r w.replicas → (q : Option Reply) → o ≡ q → P (delivered w r q).1
      of r there None is = plain outcomes.Absent refl
      of r there (Some p) is = by (take r.safe p) refl
        where
          by : (t : Result Change TakeRefusal) → take r.safe p ≡ t → P (after_take w r p t).1
          by (Ok c) e = after_all r (record { call = ToTake p; change = c }) (outcomes.Took (length p.items) (length c.writes) c.usn) (plain (outcomes.Took (length p.items) (length c.writes) c.usn) refl)
          by (Err x) e = refused_reply r p x (taking r there p is x e)

  wrote : ((usn : ℕ) → P (outcomes.Usn usn)) → (r : Replica) (call : Call) (t : Result Change WriteRefusal) → P (after_call w r call (written t)).1
  wrote made r call (Err x) = plain (write_refused x) (write_refused_plainly x)
  wrote made r call (Ok c) = after_all r (record { call = call; change = c }) (outcomes.Usn c.usn) (made c.usn)

  writes_so : ((usn : ℕ) → P (outcomes.Usn usn)) → (name : Name) (what : Write) → P (does w name (ToWrite what w.time)).1
  writes_so made name what = plain_reached (λ (g : Gone). P g.1) w name (stays w) plain (λ r. after_call w r (ToWrite what w.time) (done r.safe (ToWrite what w.time))) (λ r is up. wrote made r (ToWrite what w.time) (write r.safe what w.time))

  pub spared : ((usn : ℕ) → P (outcomes.Usn usn)) → ((name request : Name) → P (serves_request w name (bound_at w.requests request)).1) → ((name reply : Name) → P (delivers w name (bound_at w.replies reply)).1)
      → ((name : Name) (what : Exchange) → Each (λ (a : Answer). P a.outcome) (goes w name what).1)
      → Each (λ (i : Name × Store). IsFormedStore i.1) w.images → (e : Event) → MayHappen w e → Each (λ (a : Answer). P a.outcome) (step w e).1
  spared made serving taking going images e may = line_case (λ f v a. P a.outcome) w (λ f v a is. plain a.outcome is) (λ f verb name what is wrote_it. writes_so made name what) (λ name request bind. serving name request) taking going images e may
