-- What is claimed of the schedule of every number: its lines are allowed and may follow one another, and so may be printed, read and run.
use Rattle.std.specs.Prelude.{◌≡◌, ◌<◌, ◌≤◌, ◌^◌, ℕ, length, Ok}
use Rattle.adr_schedule.specs.Limits.{text_limit}
use Rattle.adr_schedule.specs.Seen.{nothing_seen, IsFollowing}
use Rattle.adr_schedule.specs.Events.{events_of}
use Rattle.adr_run_print.specs.Printed.{printed}
use Rattle.adr_run_exercise.specs.Generated.{schedule}

-- names are bound once, and used behind that; identifiers are given once; each line is allowed by the grammar
abbrev pub SchedulesFollow : Type 0
SchedulesFollow = (n : ℕ) → n < 2 ^ 64 → IsFollowing nothing_seen (schedule n)

-- what is printed of the schedule is read as the schedule, where it isn't too long
abbrev pub GeneratedAreRead : Type 0
GeneratedAreRead = (n : ℕ) → n < 2 ^ 64 → length (printed (schedule n)) ≤ text_limit → events_of (printed (schedule n)) ≡ Ok (schedule n)
