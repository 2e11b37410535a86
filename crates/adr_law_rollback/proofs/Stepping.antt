-- Behind every line that puts nothing back on its disk a controller that is shut off is so still, and has done nothing.
use Rattle.std.proofs.Common.{◌≡◌, inl, inr, ℕ, List, [], ◌∷◌, false, Option, Some, None, refl}
use Rattle.adr_call.specs.declared.answer.Answer.{Answer}
use Rattle.adr_call.specs.declared.report.Report.{Report}
use Rattle.adr_call.specs.declared.report.Report.TheVariants as reports
use Rattle.adr_call.specs.declared.event.Event.{Event}
use Rattle.adr_call.specs.declared.event.Event.TheVariants as events
use Rattle.adr_call.specs.declared.event.Coming.{Coming}
use Rattle.adr_call.specs.declared.event.Coming.TheVariants as comings
use Rattle.adr_call.specs.declared.event.Use.{Use}
use Rattle.adr_call.specs.declared.event.Use.TheVariants as used
use Rattle.adr_call.specs.declared.event.Made.{Made}
use Rattle.adr_call.specs.declared.event.Made.TheVariants as mades
use Rattle.adr_call.specs.declared.event.Exchange.{Exchange}
use Rattle.adr_call.specs.declared.event.Exchange.TheVariants as exchanges
use Rattle.adr_model.specs.Member.{Each}
use Rattle.adr_model.specs.Update.{Identifier}
use Rattle.adr_model.specs.Store.{Quarantined, Store, State, empty_state}
use Rattle.adr_model.specs.Client.{call_meant}
use Rattle.adr_model.specs.Write.{Revive}
use Rattle.adr_model.specs.Collect.{backup}
use Rattle.adr_model.specs.Replica.{ToWrite, on_new_disk}
use Rattle.adr_model.specs.World.{Name, World, Gone, Sent, stays, nothing, bound, bound_at, replica_at, asks, serves_request, of_made, of_controller, of_image, does, backed_up, reported}
use Rattle.adr_model.specs.Cycles.{reply_limit}
use Rattle.adr_model.specs.Step.{gives, comes, uses, made_bound, makes, goes, meets, told, step, after_lines, answers}
use Rattle.adr_model.proofs.Ringing.{rings_so}
use Rattle.adr_law_rollback.specs.ShutOff.{RestsIn, is_done, Spares, QuarantineHolds, QuarantineHoldsThroughout}
use Rattle.adr_law_rollback.proofs.Placing.{first_stays}
use Rattle.adr_law_rollback.proofs.Calls.{Holds, HoldsSent, calls_hold, delivers_hold, serves_hold, asks_hold, backs_up_hold, copied, copies_hold, meets_hold, reports_hold, installs_hold, restores_hold, rollbacks_hold}
use Rattle.adr_law_rollback.proofs.Cycling.{silent, one_more, both_silent, Still, pull_still, pulls_still}

-- a report says nothing of the kind
reported_undone : (w : World) (s : State) (what : Report) → is_done (reported w s what) ≡ false
reported_undone w s reports.Directory = refl
reported_undone w s _ = refl

module _ (name : Name) (s : State) (closed : s.mode ≡ Quarantined) where
  abbrev Behind : World × List Answer → Type 0
  Behind t = Still name s closed t.0 t.1

  -- a line with one answer
  told_once : (verb : List ℕ) (n : Name) (g : Gone) → Holds name s closed n g → Behind (told verb n g)
  told_once verb n g is = (is.0, one_more name verb n g.1 [] is.1 (silent name))

  bound_holds : {A : Type 0} (n : Name) (t : Sent A) (binds : World → Option A → World)
      → ((v : World) (x : Option A) → RestsIn s v name → RestsIn s (binds v x) name) → HoldsSent name s closed n t → Holds name s closed n (made_bound t binds)
  bound_holds n t binds still is = (still t.0 t.2 is.0, is.1)

  module _ (w : World) (i : RestsIn s w name) where
    comes_holds : (n : Name) (inv : Identifier) (how : Coming) → Spares name (events.Comes n inv how) → Holds name s closed n (comes w n inv how)
    comes_holds n inv (comings.Fresh dsa) spares = ((i.0, first_stays w.replicas (on_new_disk n (empty_state dsa inv) ∷ []) i.0 name i.1, i.2), λ e. refl)
    comes_holds n inv (comings.Installed dsa image) spares = installs_hold name s closed (gives w (dsa ∷ []) (inv ∷ [])) i n (bound_at w.images image) dsa inv
    comes_holds n inv (comings.Restored image) spares = restores_hold name s closed (gives w [] (inv ∷ [])) i n spares (bound_at w.images image) inv

    uses_hold : (n bind : Name) (what : Use) → Spares name (events.Uses n what bind) → Holds name s closed n (uses w n what bind)
    uses_hold n bind used.Deliver spares = delivers_hold name s closed w i n (bound_at w.replies bind)
    uses_hold n bind (used.Revive guid parent text) spares = by (bound_at w.images bind)
      where
        by : (o : Option Store) → Holds name s closed n (of_image w o (λ image. does w n (ToWrite (Revive image guid parent text) w.time)))
        by None = (i, λ e. refl)
        by (Some image) = calls_hold name s closed w i n (ToWrite (Revive image guid parent text) w.time)
    uses_hold n bind used.Rollback spares = rollbacks_hold name s closed w i n spares (bound_at w.snapshots bind)

    makes_hold : (n bind : Name) (what : Made) → Holds name s closed n (makes w n what bind)
    makes_hold n bind (mades.Ask partner max version) =
        bound_holds n (asks w n partner max version) (λ v q. record v { requests = bound v.requests bind q }) (λ v q j. j) (asks_hold name s closed w i n partner max version)
    makes_hold n bind (mades.Serve request) =
        bound_holds n (serves_request w n (bound_at w.requests request)) (λ v r. record v { replies = bound v.replies bind r }) (λ v r j. j)
        (serves_hold name s closed w i n (bound_at w.requests request))
    makes_hold n bind mades.Backup =
        bound_holds n (of_controller w n (nothing w) (λ r. backed_up w (backup r.safe))) (λ v image. record v { images = bound v.images bind image }) (λ v image j. j)
        (backs_up_hold name s closed w i n)
    makes_hold n bind mades.Snapshot =
        bound_holds n (copied name s closed w i n) (λ v t. record v { snapshots = bound v.snapshots bind t }) (λ v t j. j) (copies_hold name s closed w i n)

    goes_still : (n : Name) (what : Exchange) → Behind (goes w n what)
    goes_still n (exchanges.Pull source max) = pull_still name s closed n source max w i
    goes_still n (exchanges.Cycle source max) = pulls_still name s closed n source max reply_limit w i
    goes_still n (exchanges.Ring others rounds max) =
        rings_so (λ v. RestsIn s v name) (λ (a : Answer). a.name ≡ name → is_done a.outcome ≡ false) (λ v dest source most j. pulls_still name s closed dest source most reply_limit v j)
        n others rounds max (λ v d e own. refl) w i

    pub step_still : (e : Event) → Spares name e → Behind (step w e)
    step_still (events.Time now) spares = (i, silent name)
    step_still (events.Comes n inv how) spares = told_once _ n (comes w n inv how) (comes_holds n inv how spares)
    step_still (events.Calls n what) spares = told_once _ n (does w n (call_meant what w.time)) (calls_hold name s closed w i n (call_meant what w.time))
    step_still (events.Uses n what bind) spares = told_once _ n (uses w n what bind) (uses_hold n bind what spares)
    step_still (events.Binds n what bind) spares = told_once _ n (makes w n what bind) (makes_hold n bind what)
    step_still (events.Asks n what) spares = told_once _ n (of_controller w n (stays w) (λ r. (w, reported w r.safe what)))
        (reports_hold name s closed w i n (λ r. reported w r.safe what) (λ r. reported_undone w r.safe what))
    step_still (events.Goes n what) spares = goes_still n what
    step_still (events.Meets n what) spares = told_once _ n (of_made (stays w) (replica_at w n) (λ r. meets w r what)) (meets_hold name s closed w i n what)

  lines_still : (es : List Event) (w : World) → RestsIn s w name → Each (Spares name) es → Still name s closed (after_lines w es) (answers w es)
  lines_still [] w i spares = (i, silent name)
  lines_still (e ∷ es) w i spares =
      let t = step_still w i e (spares e (inl refl)) in
      let u = lines_still es (step w e).0 t.0 (λ f m. spares f (inr m)) in
      (u.0, both_silent name (step w e).1 (answers (step w e).0 es) t.1 u.1)

pub quarantine_holds : QuarantineHolds
quarantine_holds w name s e closed i spares = step_still name s closed w i e spares

pub quarantine_holds_on : QuarantineHoldsThroughout
quarantine_holds_on w name s es closed i spares = lines_still name s closed es w i spares
