-- What stands in the output of a schedule where a controller is asked for its directory.
use Rattle.std.specs.Prelude.{◌≡◌, List, ◌∷◌, ◌++◌, ℕ, true, codes}
use Rattle.adr_call.specs.declared.outcome.Outcome.TheVariants as outcomes
use Rattle.adr_call.specs.declared.report.Report.TheVariants.{Directory}
use Rattle.adr_call.specs.declared.event.Event.{Event}
use Rattle.adr_call.specs.declared.event.Event.TheVariants as events
use Rattle.adr_model.specs.Member.{Member}
use Rattle.adr_model.specs.Directory.{directory}
use Rattle.adr_model.specs.Replica.{Replica, Up}
use Rattle.adr_model.specs.World.{in_view, World, answer, empty_world}
use Rattle.adr_model.specs.Convergence.{behind}
use Rattle.adr_answers.specs.Line.{line}
use Rattle.adr_schedule.specs.Schedules.{IsSchedule}
use Rattle.adr_run_world.specs.Played.{output_from}

-- the lines of the directory of the issued updates that a controller covers or holds
abbrev pub view_line : World → Replica → List ℕ
view_line w r = line (answer (codes "show") r.name (outcomes.Show (directory (in_view w r.safe))))

-- wherever a schedule asks a controller that is up for its directory, while no database was put back, this holds of the whole output:
-- what the lines before give, the directory of the issued updates that the controller covers or holds, and what the others give
abbrev pub AtEachShow : List ℕ → (List ℕ → Type 0) → Type 0
AtEachShow text P =
    (before after : List Event) (r : Replica) → IsSchedule text (before ++ events.Asks r.name Directory ∷ after)
    → Member r (behind before).replicas → r.standing ≡ Up → (behind before).clean ≡ true
    → P (output_from empty_world before ++ view_line (behind before) r ++ output_from (behind before) after)
