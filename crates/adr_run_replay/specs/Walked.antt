-- What a text gives, as the walk over its lines finds it. No clause of `run` speaks of it.
use Rattle.std.specs.Prelude.{ℕ, List, Result, Ok, Err}
use Rattle.adr_call.specs.declared.event.Event.{Event}
use Rattle.adr_schedule.specs.declared.fault.ScheduleFault.{ScheduleFault}
use Rattle.adr_schedule.specs.Events.{events_of}
use Rattle.adr_schedule.specs.Telling.{fault_line}
use Rattle.adr_model.specs.World.{empty_world}
use Rattle.adr_run_world.specs.Played.{output_from}

-- a text's status, and what is written for it: the run of its events, or its first fault
abbrev pub outcome_of : Result (List Event) ScheduleFault → ℕ × List ℕ
outcome_of (Ok events) = (0, output_from empty_world events)
outcome_of (Err fault) = (3, fault_line fault)

unfoldable pub outcome : List ℕ → ℕ × List ℕ
outcome text = outcome_of (events_of text)
