-- What a line says: the form of each verb's line, one row each.
use Rattle.std.specs.Prelude.{ℕ, List, [], ◌∷◌, Bool, ◌||◌, ◌==◌, length, take, Option, Some, None, codes}
use Rattle.std.specs.Str.{bytes_eq}
use Rattle.adr_disk.specs.declared.memory.Crash.{Crash}
use Rattle.adr_call.specs.declared.write.Write.{Write as Written}
use Rattle.adr_call.specs.declared.write.Write.TheVariants.{Add, Modify, Rename, Delete, Link, Unlink}
use Rattle.adr_call.specs.declared.report.Report.{Report as Asked}
use Rattle.adr_call.specs.declared.report.Report.TheVariants as reports
use Rattle.adr_call.specs.declared.event.Event.{Event}
use Rattle.adr_call.specs.declared.call.Call.TheVariants.{Write, Collect, Upgrade}
use Rattle.adr_call.specs.declared.event.Use.{Use}
use Rattle.adr_call.specs.declared.event.Made.{Made}
use Rattle.adr_call.specs.declared.event.Exchange.{Exchange}
use Rattle.adr_call.specs.declared.event.Meeting.{Meeting}
use Rattle.adr_call.specs.declared.event.Event.TheVariants.{Time, Comes, Calls, Uses, Binds, Asks, Goes, Meets}
use Rattle.adr_call.specs.declared.event.Coming.TheVariants.{Fresh, Installed, Restored}
use Rattle.adr_call.specs.declared.event.Use.TheVariants.{Deliver, Revive, Rollback}
use Rattle.adr_call.specs.declared.event.Made.TheVariants.{Ask, Serve, Backup, Snapshot}
use Rattle.adr_call.specs.declared.event.Exchange.TheVariants.{Pull, Cycle, Ring}
use Rattle.adr_call.specs.declared.event.Meeting.TheVariants.{Stop, Start, StopAfter, Fail}
use Rattle.adr_call.specs.declared.verb.Verb.{Verb}
use Rattle.adr_call.specs.declared.verb.Verb.TheVariants as verbs
use Rattle.adr_token.specs.Gives.{◌>>=◌}
use Rattle.adr_token.specs.Words.{unspaced, ended, word_at}
use Rattle.adr_schedule.specs.Verbs.{verb_said}
use Rattle.adr_schedule.specs.Forms.{Form, Name, Number, Identifier, Class, Attribute, Quoted, Limit, Rounds, Bound, After, Version, Plan, Members, Sets, SomeSets, calls_at, crash_at, line_by}

-- ---- forms that some verbs share

-- NAME, of a report that wants no more
abbrev pub report_form : Asked → Form
report_form what = record { kinds = Name ∷ []; make = λ v. Asks v.0 what }

-- NAME NAME
abbrev pub use_form : Use → Form
use_form what = record { kinds = Name ∷ Name ∷ []; make = λ v. Uses v.0 what v.1.0 }

-- NAME ID ATTR ID
abbrev pub link_form : (List ℕ → ℕ → List ℕ → Written) → Form
link_form what = record { kinds = Name ∷ Identifier ∷ Attribute ∷ Identifier ∷ []; make = λ v. Calls v.0 (Write (what v.1.0 v.1.1.0 v.1.1.1.0)) }

-- NAME NAME MAX
abbrev pub pull_form : (List ℕ → ℕ → Exchange) → Form
pull_form what = record { kinds = Name ∷ Name ∷ Limit ∷ []; make = λ v. Goes v.0 (what v.1.0 v.1.1.0) }

-- NAME as NAME
abbrev pub binding_form : Made → Form
binding_form what = record { kinds = Name ∷ Bound ∷ []; make = λ v. Binds v.0 what v.1.0 }

-- a stop at once, or one that is planned
abbrev pub stopped : Option (ℕ × Crash) → Meeting
stopped None = Stop
stopped (Some plan) = StopAfter plan.0 plan.1

-- ---- the table

-- the form of a verb's line
abbrev pub form_of : Verb → Form
form_of verbs.Controller = record { kinds = Name ∷ Identifier ∷ Identifier ∷ []; make = λ v. Comes v.0 v.1.1.0 (Fresh v.1.0) }
form_of verbs.Time = record { kinds = Number ∷ []; make = λ v. Time v.0 }
form_of verbs.Add = record { kinds = Name ∷ Identifier ∷ Class ∷ Identifier ∷ Quoted ∷ Sets ∷ []; make = λ v. Calls v.0 (Write (Add v.1.0 v.1.1.0 v.1.1.1.0 v.1.1.1.1.0 v.1.1.1.1.1.0)) }
form_of verbs.Modify = record { kinds = Name ∷ Identifier ∷ SomeSets ∷ []; make = λ v. Calls v.0 (Write (Modify v.1.0 v.1.1.0)) }
form_of verbs.Rename = record { kinds = Name ∷ Identifier ∷ Identifier ∷ Quoted ∷ []; make = λ v. Calls v.0 (Write (Rename v.1.0 v.1.1.0 v.1.1.1.0)) }
form_of verbs.Delete = record { kinds = Name ∷ Identifier ∷ []; make = λ v. Calls v.0 (Write (Delete v.1.0)) }
form_of verbs.Link = link_form Link
form_of verbs.Unlink = link_form Unlink
form_of verbs.Ask = record { kinds = Name ∷ Name ∷ Limit ∷ Bound ∷ Version ∷ []; make = λ v. Binds v.0 (Ask v.1.0 v.1.1.0 v.1.1.1.1.0) v.1.1.1.0 }
form_of verbs.Serve = record { kinds = Name ∷ Name ∷ Bound ∷ []; make = λ v. Binds v.0 (Serve v.1.0) v.1.1.0 }
form_of verbs.Deliver = use_form Deliver
form_of verbs.Pull = pull_form Pull
form_of verbs.Cycle = pull_form Cycle
form_of verbs.Ring = record { kinds = Rounds ∷ Limit ∷ Members ∷ []; make = λ v. Goes v.1.1.0.0 (Ring v.1.1.0.1 v.0 v.1.0) }
form_of verbs.Collect = record { kinds = Name ∷ Number ∷ []; make = λ v. Calls v.0 (Collect v.1.0) }
form_of verbs.Upgrade = record { kinds = Name ∷ []; make = λ v. Calls v.0 Upgrade }
form_of verbs.Revive = record { kinds = Name ∷ Identifier ∷ Name ∷ Identifier ∷ Quoted ∷ []; make = λ v. Uses v.0 (Revive v.1.0 v.1.1.1.0 v.1.1.1.1.0) v.1.1.0 }
form_of verbs.Backup = binding_form Backup
form_of verbs.Restore = record { kinds = Name ∷ Name ∷ Identifier ∷ []; make = λ v. Comes v.0 v.1.1.0 (Restored v.1.0) }
form_of verbs.Install = record { kinds = Name ∷ Identifier ∷ Name ∷ Identifier ∷ []; make = λ v. Comes v.0 v.1.1.1.0 (Installed v.1.0 v.1.1.0) }
form_of verbs.Snapshot = binding_form Snapshot
form_of verbs.Rollback = use_form Rollback
form_of verbs.Stop = record { kinds = Name ∷ Plan ∷ []; make = λ v. Meets v.0 (stopped v.1.0) }
form_of verbs.Fail = record { kinds = Name ∷ After ∷ []; make = λ v. Meets v.0 (Fail v.1.0) }
form_of verbs.Start = record { kinds = Name ∷ []; make = λ v. Meets v.0 Start }
form_of verbs.Show = report_form reports.Directory
form_of verbs.Vector = report_form reports.Vector
form_of verbs.Marks = report_form reports.Marks
form_of verbs.Meta = record { kinds = Name ∷ Identifier ∷ []; make = λ v. Asks v.0 (reports.Meta v.1.0) }

-- what a line says behind its verb
abbrev pub by_verb : Verb → List ℕ → Option Event
by_verb verb rest = line_by (form_of verb) rest

-- a stop that is planned, behind the name
unfoldable pub stop_after : List ℕ → List ℕ → Option Event
stop_after name bytes = do
  calls ← calls_at bytes
  how ← crash_at calls.1
  ended how.1 (Meets name (StopAfter calls.0 how.0))

-- what a line says
unfoldable pub event_of : List ℕ → Option Event
event_of line = do
  word ← word_at line
  verb ← verb_said word.0
  by_verb verb word.1

-- a line that says nothing: it has no word, or begins with a semicolon
abbrev pub is_passed : List ℕ → Bool
is_passed line = bytes_eq (take 1 line) (codes ";") || (length (unspaced line) == 0)
