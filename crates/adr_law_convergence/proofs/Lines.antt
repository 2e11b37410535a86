-- Every world on the way of a line of a run is again that of a run.
use Rattle.std.proofs.Common.{◌≡◌, List, [], ◌∷◌, Bool, true, false, refl}
use Rattle.adr_call.specs.declared.event.Event.{Event}
use Rattle.adr_call.specs.declared.event.Event.TheVariants as events
use Rattle.adr_call.specs.declared.event.Exchange.TheVariants as exchanges
use Rattle.adr_model.specs.World.{World, empty_world}
use Rattle.adr_model.specs.Cycles.{reply_limit}
use Rattle.adr_model.specs.Step.{step, after_lines}
use Rattle.adr_model.specs.Sound.{IsSoundWorld, IsOrderlyWorld, IsWorldOfRun}
use Rattle.adr_model.specs.Convergence.{MayHappen, IsOnTheWay, StaysSound, MayAllHappen, RunsAreSound}
use Rattle.adr_model.proofs.Ringing.{behind_is_amid}
use Rattle.adr_law_convergence.proofs.Empty.{begins_sound}
use Rattle.adr_law_convergence.proofs.Exchanges.{way_case}
use Rattle.adr_law_convergence.proofs.Issuing.{stays_unclean}
use Rattle.adr_law_convergence.proofs.Orderly.{pulls_orderly, step_orderly}
use Rattle.adr_law_convergence.proofs.Stepping.{pulls_sound, step_sound}

-- a world that is clean comes of one that was
pub was_clean : (w : World) (e : Event) (v : World) → IsOnTheWay w e v → v.clean ≡ true → w.clean ≡ true
was_clean w e v way clean = by w.clean refl
  where
    by : (b : Bool) → w.clean ≡ b → b ≡ true
    by true is = refl
    by false is = let t : v.clean ≡ false = stays_unclean w e v way is in cc

pub way_sound : (w : World) (e : Event) → IsSoundWorld w → MayHappen w e → (v : World) → IsOnTheWay w e v → v.clean ≡ true → IsSoundWorld v
way_sound w e sound may v way = way_case IsSoundWorld (λ (x : World). x.clean ≡ true → IsSoundWorld x) w e sound (λ x name source max n is. pulls_sound x is name source max n) (λ x is clean. is) (step_sound w sound e may) v way

pub way_orderly : (w : World) (e : Event) → IsOrderlyWorld w → MayHappen w e → (v : World) → IsOnTheWay w e v → IsOrderlyWorld v
way_orderly w e orderly may v way = way_case IsOrderlyWorld IsOrderlyWorld w e orderly (λ x name source max n is. pulls_orderly x is name source max n) (λ x is. is) (step_orderly w orderly e may) v way

pub stays_sound : StaysSound
stays_sound w e run may v way = record {
  orderly = way_orderly w e run.orderly may v way;
  sound = λ clean. way_sound w e (run.sound (was_clean w e v way clean)) may v way clean;
}

-- what is behind a line is on its way
pub behind_is_on_the_way : (w : World) (e : Event) → IsOnTheWay w e (step w e).0
behind_is_on_the_way w (events.Goes name (exchanges.Cycle source max)) = (reply_limit, refl)
behind_is_on_the_way w (events.Goes name (exchanges.Ring others rounds max)) = behind_is_amid name others rounds max w
behind_is_on_the_way w e = refl

runs : (es : List Event) (w : World) → IsWorldOfRun w → MayAllHappen w es → IsWorldOfRun (after_lines w es)
runs [] w run may = run
runs (e ∷ es) w run may = runs es (step w e).0 (stays_sound w e run may.0 (step w e).0 (behind_is_on_the_way w e)) may.1

pub runs_are_sound : RunsAreSound
runs_are_sound es may = runs es empty_world begins_sound may
