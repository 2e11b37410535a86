-- Rounds in a run.
use Rattle.std.proofs.Common.{◌≡◌, List, [], ◌∷◌, ◌++◌, refl, sym, subst, map, length, ◌≤◌, ◌+◌, ◌*◌}
use Rattle.adr_call.specs.declared.event.Event.{Event}
use Rattle.adr_model.specs.World.{World, empty_world}
use Rattle.adr_model.specs.Step.{step, after_lines}
use Rattle.adr_model.specs.Sound.{IsSoundWorld}
use Rattle.adr_model.specs.Convergence.{behind}
use Rattle.adr_law_convergence.proofs.Lines.{runs_are_sound}
use Rattle.adr_law_convergence.specs.Rounds.{line_of, in_turn, ShowTheSame, HaveOneVector, ComeTogether, RunsComeTogether}
use Rattle.adr_law_convergence.proofs.Rounds.{rounds_converge}
use Rattle.adr_law_convergence.proofs.Telling.{rings_tell_true}

lines_both : (before after : List Event) (w : World) → after_lines w (before ++ after) ≡ after_lines (after_lines w before) after
lines_both [] after w = refl
lines_both (e ∷ before) after w = lines_both before after (step w e).0

pub runs_come_together : RunsComeTogether
runs_come_together before may clean = (together, rings_tell_true (behind before) sound)
  where
    sound : IsSoundWorld (behind before)
    sound = (runs_are_sound before may).sound clean

    together : ComeTogether before
    together names over rounds connected are whole =
        subst (λ (v : World). (length names ≤ length rounds + 1 → ShowTheSame names v) × (2 * length names ≤ length rounds + 2 → HaveOneVector names v))
        (sym (lines_both before (map line_of (in_turn rounds)) empty_world)) (rounds_converge (behind before) names over rounds sound connected are whole)
