-- Every directory of a run of events that the program does is exportable, so that its JSON tells it. So is that of each state of a
-- log whose rows are whole.
use Rattle.std.specs.Prelude.{ℕ, List}
use Rattle.adr_call.specs.declared.event.Event.{Event}
use Rattle.adr_schedule.specs.Schedules.{IsSchedule}
use Rattle.adr_records.specs.Logged.{IsLogged}
use Rattle.adr_model.specs.Member.{Each}
use Rattle.adr_model.specs.Store.{State, updates_of}
use Rattle.adr_model.specs.Directory.{directory}
use Rattle.adr_model.specs.World.{World}
use Rattle.adr_json.specs.Exportable.{IsExportable}
use Rattle.adr_law_headline.specs.Throughout.{HoldsAlways}
use Rattle.adr_law_headline.specs.Printable.{AllShow, IsWholeRow, RunsAre}

-- what every controller shows is exportable
abbrev pub ShowExportable : World → Type 0
ShowExportable = AllShow IsExportable

-- at every place of a run and on the way of each line, whether or not a database was put back
abbrev pub AreExportableThroughout : List Event → Type 0
AreExportableThroughout es = HoldsAlways es ShowExportable

abbrev pub RunsAreExportable : Type 0
RunsAreExportable = RunsAre AreExportableThroughout

-- of a text that is a schedule nothing more is asked
abbrev pub TextsAreExportable : Type 0
TextsAreExportable = (text : List ℕ) (es : List Event) → IsSchedule text es → AreExportableThroughout es

-- the identifiers in a state's rows are of sixteen bytes each; that it is one of a log says their lengths alone
abbrev pub HasWholeRows : State → Type 0
HasWholeRows s = Each IsWholeRow (updates_of s.store.rows)

abbrev pub LogsAreExportable : Type 0
LogsAreExportable = (s : State) → IsLogged s → HasWholeRows s → IsExportable (directory (updates_of s.store.rows))
