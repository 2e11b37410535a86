-- The theorem of the definitions, as it is claimed of a run.
use Rattle.std.proofs.Common.{◌≡◌, ◌∙◌, List, [], ◌∷◌, ◌++◌, true, inl, inr, ap, subst, codes, if◌then◌else◌}
use Rattle.adr_call.specs.declared.outcome.Outcome.TheVariants as outcomes
use Rattle.adr_call.specs.declared.report.Report.TheVariants.{Directory}
use Rattle.adr_call.specs.declared.event.Event.TheVariants as events
use Rattle.adr_call.specs.declared.event.Event.{Event}
use Rattle.adr_model.specs.Member.{Member}
use Rattle.adr_model.specs.Directory.{directory}
use Rattle.adr_model.specs.Store.{Store, updates_of}
use Rattle.adr_model.specs.Visible.{visible}
use Rattle.adr_model.specs.Replica.{Up, Replica}
use Rattle.adr_model.specs.World.{in_view, World, empty_world, answer, stays, where_up, of_made, shown}
use Rattle.adr_model.specs.Step.{step, told, after_lines}
use Rattle.adr_model.specs.Sound.{IsSoundWorld}
use Rattle.adr_model.specs.Convergence.{MayHappen, MayAllHappen, behind, IsStoreOf, IsPurgedCovered}
use Rattle.adr_law_convergence.proofs.Completing.{found_by_name}
use Rattle.adr_law_convergence.proofs.Lines.{runs_are_sound}
use Rattle.adr_law_convergence.proofs.Converging.{runs_converge, runs_stay_clean, acknowledged_stays_in_view}
use Rattle.adr_law_convergence.proofs.RefusalsNone.{never_too_old, no_damage}
use Rattle.adr_law_convergence.proofs.CoveredEvents.{stays_covered}
use Rattle.adr_law_convergence.proofs.Together.{runs_come_together}
use Rattle.adr_law_convergence.proofs.Traced.{times_are_true}
use Rattle.adr_law_headline.specs.Headline.{Headline}
use Rattle.adr_law_headline.proofs.NormalControllers.{all_normal, leaves_all_normal}
use Rattle.adr_law_headline.proofs.WholeCycles.{cycles_end}
use Rattle.adr_law_headline.proofs.OpenAnswers.{none_is_quarantined}
use Rattle.adr_law_headline.proofs.RevivedShown.{revivals_show}

-- the first lines of those that may happen may happen
pub first_may : (before after : List Event) (w : World) → MayAllHappen w (before ++ after) → MayAllHappen w before
first_may [] after w may = tt
first_may (e ∷ before) after w may = (may.0, first_may before after (step w e).0 may.1)

-- and so may the next one
pub next_may : (before after : List Event) (e : Event) (w : World) → MayAllHappen w (before ++ e ∷ after) → MayHappen (after_lines w before) e
next_may [] after e w may = may.0
next_may (x ∷ before) after e w may = next_may before after e (step w x).0 may.1

-- a controller that is up answers with what it has in view, and nothing changes
pub show_so : (w : World) (r : Replica) → IsSoundWorld w → Member r w.replicas → r.standing ≡ Up
    → step w (events.Asks r.name Directory) ≡ (w, answer (codes "show") r.name (outcomes.Show (directory (in_view w r.safe))) ∷ [])
show_so w r sound m up =
    ap (λ o. told (codes "show") r.name (of_made (stays w) o (λ q. where_up (stays w) q.standing (w, outcomes.Show (shown w q.safe))))) (found_by_name w r sound m)
    ∙ ap (λ st. told (codes "show") r.name (where_up (stays w) st (w, outcomes.Show (shown w r.safe)))) up
    ∙ ap (λ b. (w, answer (codes "show") r.name (outcomes.Show (directory (if b then visible w.book.issued r.safe.store.vector (updates_of r.safe.store.rows) else updates_of r.safe.store.rows))) ∷ [])) sound.clean

-- at the beginning nobody has collected anything
nothing_stored : (s : Store) → IsStoreOf empty_world s → ⊥
nothing_stored s (inl (r, there, is)) = there
nothing_stored s (inr (i, there, is)) = there

nothing_collected : IsPurgedCovered empty_world
nothing_collected = record { stores = λ s t of. absurd (nothing_stored s of); requests = λ s of. absurd (nothing_stored s of) }

module _ (es : List Event) (may : MayAllHappen empty_world es) where
  pub front_may : (before after : List Event) → es ≡ before ++ after → MayAllHappen empty_world before
  front_may before after is = first_may before after empty_world (subst (MayAllHappen empty_world) is may)

  pub line_may : (before after : List Event) (e : Event) → es ≡ before ++ e ∷ after → MayHappen (behind before) e
  line_may before after e is = next_may before after e empty_world (subst (MayAllHappen empty_world) is may)

  sound_behind : (before after : List Event) → es ≡ before ++ after → (behind before).clean ≡ true → IsSoundWorld (behind before)
  sound_behind before after is clean = (runs_are_sound before (front_may before after is)).sound clean

  pub headline : Headline es
  headline = record {
    clean = λ before after is none. runs_stay_clean before none;
    answered = λ before after is clean r m up. show_so (behind before) r (sound_behind before after is clean) m up;
    shown = λ before after is clean. (runs_converge before (front_may before after is) clean).0;
    equal = λ before after is clean. (runs_converge before (front_may before after is) clean).1;
    acknowledged = λ before mid after e is clean. acknowledged_stays_in_view before mid e (front_may (before ++ e ∷ mid) after is) clean;
    times = λ before after is clean. times_are_true (behind before) (sound_behind before after is clean);
    together = λ before after is clean. (runs_come_together before (front_may before after is) clean).0;
    rings = λ before after is clean. (runs_come_together before (front_may before after is) clean).1;
    cycles = λ before after is clean. cycles_end (behind before) (sound_behind before after is clean);
    normal = λ before after is clean. all_normal (behind before) (sound_behind before after is clean);
    stays_normal = λ before after e is clean. leaves_all_normal (behind before) e (sound_behind before (e ∷ after) is clean) (line_may before after e is);
    undamaged = λ before after e is clean.
        let sound = sound_behind before (e ∷ after) is clean in
        let t = no_damage (behind before) e sound (line_may before after e is) in
        (none_is_quarantined (behind before) e sound, t.0, t.1.0, t.1.1);
    young = λ before after e is clean covered. never_too_old (behind before) e (sound_behind before (e ∷ after) is clean) (line_may before after e is) covered;
    revived = λ before after e is. let orderly = (runs_are_sound before (front_may before (e ∷ after) is)).orderly in
        revivals_show (behind before) e (λ r m. (orderly.replicas r m).safe.formed) (λ i m. (orderly.images i m).formed);
    begins_covered = nothing_collected;
    stays_covered = λ before after e is clean. stays_covered (behind before) e (sound_behind before (e ∷ after) is clean) (line_may before after e is);
  }
