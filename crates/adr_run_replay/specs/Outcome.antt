-- What a text gives: a status, and what is written.
use Rattle.std.specs.Prelude.{◌≡◌, ◌⊎◌, ◌<◌, ◌^◌, ℕ, List, Result, Ok, Err}
use Rattle.adr_call.specs.declared.event.Event.{Event}
use Rattle.adr_io.specs.declared.Fault.{Fault}
use Rattle.adr_io.specs.declared.Fault.TheVariants.{Failed, NoMemory}
use Rattle.adr_schedule.specs.declared.fault.ScheduleFault.{ScheduleFault}
use Rattle.adr_schedule.specs.Schedules.{IsSchedule, IsFault}
use Rattle.adr_schedule.specs.Telling.{fault_line}
use Rattle.adr_model.specs.World.{empty_world}
use Rattle.adr_run_world.specs.Played.{output_from}
use Rattle.adr_law_headline.specs.Headline.{Headline}
use Rattle.adr_law_headline.specs.Formed.{AreFormedThroughout}
use Rattle.adr_law_headline.specs.Printable.{ArePrintableThroughout}
use Rattle.adr_run_exercise.specs.Generated.{schedule}
use Rattle.adr_run_exercise.specs.Summary.{summary, summary_line}

-- a schedule of some events gives 0 and the output of their run; a text with a fault gives 3 and the fault's line
abbrev pub Gives : List ℕ → ℕ → List ℕ → Type 0
Gives text status written =
    ((events : List Event) × IsSchedule text events × (status ≡ 0) × (written ≡ output_from empty_world events))
    ⊎ ((fault : ScheduleFault) × IsFault text fault × (status ≡ 3) × (written ≡ fault_line fault))

-- every text gives one status and one output
abbrev pub TextsGiveOne : Type 0
TextsGiveOne =
    (text : List ℕ) → (status : ℕ) × (written : List ℕ) × Gives text status written
    × ((s : ℕ) (w : List ℕ) → Gives text s w → (s ≡ status) × (w ≡ written))

-- what `exercise` writes: what the run of the generated schedule comes to
abbrev pub exercised : ℕ → List ℕ
exercised number = summary_line number (summary number)

-- of the generated schedules all is claimed that is of those that are read
abbrev pub GeneratedRunsAreSo : Type 0
GeneratedRunsAreSo = (number : ℕ) → number < 2 ^ 64 → Headline (schedule number) × AreFormedThroughout (schedule number) × ArePrintableThroughout (schedule number)

-- the status that a write ends with: this one, or that of its fault
abbrev pub ended : {A : Type 0} → ℕ → Result A Fault → ℕ
ended status (Ok done) = status
ended status (Err Failed) = 5
ended status (Err NoMemory) = 8
