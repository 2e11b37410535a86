-- What a controller is answered that is asked for a report.
use Rattle.std.proofs.Common.{◌≡◌, ◌∙◌, ◌⊎◌, refl, sym, ap, inl, inr, Bool, true, false, Some, None, if◌then◌else◌}
use Rattle.adr_call.specs.declared.outcome.Outcome.{Outcome}
use Rattle.adr_call.specs.declared.outcome.Outcome.TheVariants as outcomes
use Rattle.adr_call.specs.declared.report.Report.{Report}
use Rattle.adr_call.specs.declared.report.Report.TheVariants.{Directory, Vector, Marks, Meta}
use Rattle.adr_model.specs.Directory.{directory}
use Rattle.adr_model.specs.Store.{updates_of}
use Rattle.adr_model.specs.Replica.{Up, Down, Failed, Replica}
use Rattle.adr_model.specs.World.{World, Name, replica_at, of_controller, where_up, stays, in_view, shown, reported}
use Rattle.adr_model.specs.Sound.{IsWorldOfRun}
use Rattle.adr_law_convergence.proofs.Controllers.{shows_what_is_visible}
use Rattle.adr_law_convergence.proofs.Found.{replica_found}
use Rattle.adr_view.specs.Report.{report_of}
use Rattle.adr_run_world.proofs.Calls.{reaches, reaches_none}

-- its rows show what it has in view while the world is clean, and else it shows just them
pub rows_shown : (w : World) → IsWorldOfRun w → (name : Name) (r : Replica) → replica_at w name ≡ Some r → (b : Bool) → w.clean ≡ b → shown w r.safe ≡ directory (updates_of r.safe.store.rows)
rows_shown w run name r is true clean =
    ap (λ b. directory (if b then in_view w r.safe else updates_of r.safe.store.rows)) clean
    ∙ sym (shows_what_is_visible w (run.sound clean) r (replica_found w name r is).0)
rows_shown w run name r is false unclean = ap (λ b. directory (if b then in_view w r.safe else updates_of r.safe.store.rows)) unclean

-- what is told of it is what is told of its store
store_reports : (w : World) → IsWorldOfRun w → (name : Name) (r : Replica) → replica_at w name ≡ Some r → (what : Report) → reported w r.safe what ≡ report_of what r.safe.store
store_reports w run name r is Directory = ap outcomes.Show (rows_shown w run name r is w.clean refl)
store_reports w run name r is Vector = refl
store_reports w run name r is Marks = refl
store_reports w run name r is (Meta guid) = refl

module _ (w : World) (name : Name) (what : Report) where
  -- the call comes to this outcome
  abbrev pub IsReported : Outcome → Type 0
  IsReported o = of_controller w name (stays w) (λ r. (w, reported w r.safe what)) ≡ (w, o)

  -- there is no such controller
  pub nobody_reports : replica_at w name ≡ None → IsReported outcomes.Absent
  nobody_reports none = reaches_none w name (stays w) (λ r. (w, reported w r.safe what)) none

  module _ (r : Replica) (is : replica_at w name ≡ Some r) where
    reported_where : (o : Outcome) → where_up (stays w) r.standing (w, reported w r.safe what) ≡ (w, o) → IsReported o
    reported_where o so = reaches w name (stays w) (λ x. (w, reported w x.safe what)) r is ∙ so

    -- it is up
    pub up_reports : IsWorldOfRun w → (o : Outcome) → r.standing ≡ Up → o ≡ report_of what r.safe.store → IsReported o
    up_reports run o up made = reported_where o
        (ap (λ s. where_up (stays w) s (w, reported w r.safe what)) up ∙ ap (λ x. (w, x)) (store_reports w run name r is what ∙ sym made))

    -- it is down or failed
    pub other_reports : (o : Outcome) → ((r.standing ≡ Down) × (o ≡ outcomes.Down)) ⊎ ((r.standing ≡ Failed) × (o ≡ outcomes.Failed)) → IsReported o
    other_reports o (inl so) = reported_where o (ap (λ s. where_up (stays w) s (w, reported w r.safe what)) so.0 ∙ ap (λ x. (w, x)) (sym so.1))
    other_reports o (inr so) = reported_where o (ap (λ s. where_up (stays w) s (w, reported w r.safe what)) so.0 ∙ ap (λ x. (w, x)) (sym so.1))
