-- The verbs: the words that lines begin with and answers repeat. And the controllers that lines go to.
use Rattle.std.specs.Prelude.{ℕ, List, [], codes}
use Rattle.adr_call.specs.declared.write.Write.{Write}
use Rattle.adr_call.specs.declared.write.Write.TheVariants as writes
use Rattle.adr_call.specs.declared.call.Call.{Call}
use Rattle.adr_call.specs.declared.call.Call.TheVariants as calls
use Rattle.adr_call.specs.declared.report.Report.{Report}
use Rattle.adr_call.specs.declared.report.Report.TheVariants as reports
use Rattle.adr_call.specs.declared.event.Event.{Event}
use Rattle.adr_call.specs.declared.event.Event.TheVariants as events
use Rattle.adr_call.specs.declared.event.Coming.{Coming}
use Rattle.adr_call.specs.declared.event.Coming.TheVariants as comings
use Rattle.adr_call.specs.declared.event.Use.{Use}
use Rattle.adr_call.specs.declared.event.Use.TheVariants as uses
use Rattle.adr_call.specs.declared.event.Made.{Made}
use Rattle.adr_call.specs.declared.event.Made.TheVariants as mades
use Rattle.adr_call.specs.declared.event.Exchange.{Exchange}
use Rattle.adr_call.specs.declared.event.Exchange.TheVariants as exchanges
use Rattle.adr_call.specs.declared.event.Meeting.{Meeting}
use Rattle.adr_call.specs.declared.event.Meeting.TheVariants as meetings
use Rattle.adr_call.specs.declared.verb.Verb.{Verb}
use Rattle.adr_call.specs.declared.verb.Verb.TheVariants.{Controller, Time, Add, Modify, Rename, Delete, Link, Unlink, Ask, Serve, Deliver, Pull, Cycle, Ring, Collect, Upgrade, Revive, Backup, Restore, Install, Snapshot, Rollback, Stop, Fail, Start, Show, Vector, Marks, Meta}

abbrev pub word_of : Verb → List ℕ
word_of Controller = codes "controller"
word_of Time = codes "time"
word_of Add = codes "add"
word_of Modify = codes "modify"
word_of Rename = codes "rename"
word_of Delete = codes "delete"
word_of Link = codes "link"
word_of Unlink = codes "unlink"
word_of Ask = codes "ask"
word_of Serve = codes "serve"
word_of Deliver = codes "deliver"
word_of Pull = codes "pull"
word_of Cycle = codes "cycle"
word_of Ring = codes "ring"
word_of Collect = codes "collect"
word_of Upgrade = codes "upgrade"
word_of Revive = codes "revive"
word_of Backup = codes "backup"
word_of Restore = codes "restore"
word_of Install = codes "install"
word_of Snapshot = codes "snapshot"
word_of Rollback = codes "rollback"
word_of Stop = codes "stop"
word_of Fail = codes "fail"
word_of Start = codes "start"
word_of Show = codes "show"
word_of Vector = codes "vector"
word_of Marks = codes "marks"
word_of Meta = codes "meta"

-- the verb of the line that says a write or a call, and of the one that asks for a report

abbrev pub verb_of_write : Write → Verb
verb_of_write (writes.Add guid class parent text values) = Add
verb_of_write (writes.Modify guid values) = Modify
verb_of_write (writes.Rename guid parent text) = Rename
verb_of_write (writes.Delete guid) = Delete
verb_of_write (writes.Link from attr to) = Link
verb_of_write (writes.Unlink from attr to) = Unlink

abbrev pub verb_of_call : Call → Verb
verb_of_call (calls.Write what) = verb_of_write what
verb_of_call (calls.Collect lifetime) = Collect
verb_of_call calls.Upgrade = Upgrade

abbrev pub verb_of_report : Report → Verb
verb_of_report reports.Directory = Show
verb_of_report reports.Vector = Vector
verb_of_report reports.Marks = Marks
verb_of_report (reports.Meta guid) = Meta

-- the verb of a line of each other kind

abbrev pub verb_of_coming : Coming → Verb
verb_of_coming (comings.Fresh dsa) = Controller
verb_of_coming (comings.Installed dsa image) = Install
verb_of_coming (comings.Restored image) = Restore

abbrev pub verb_of_use : Use → Verb
verb_of_use uses.Deliver = Deliver
verb_of_use (uses.Revive guid parent text) = Revive
verb_of_use uses.Rollback = Rollback

abbrev pub verb_of_made : Made → Verb
verb_of_made (mades.Ask partner max version) = Ask
verb_of_made (mades.Serve request) = Serve
verb_of_made mades.Backup = Backup
verb_of_made mades.Snapshot = Snapshot

abbrev pub verb_of_exchange : Exchange → Verb
verb_of_exchange (exchanges.Pull source max) = Pull
verb_of_exchange (exchanges.Cycle source max) = Cycle
verb_of_exchange (exchanges.Ring others rounds max) = Ring

abbrev pub verb_of_meeting : Meeting → Verb
verb_of_meeting meetings.Stop = Stop
verb_of_meeting meetings.Start = Start
verb_of_meeting (meetings.StopAfter calls how) = Stop
verb_of_meeting (meetings.Fail calls) = Fail

-- the verb of an event's line
abbrev pub verb_of : Event → Verb
verb_of (events.Time now) = Time
verb_of (events.Comes name inv how) = verb_of_coming how
verb_of (events.Calls name what) = verb_of_call what
verb_of (events.Uses name what bind) = verb_of_use what
verb_of (events.Binds name what bind) = verb_of_made what
verb_of (events.Asks name what) = verb_of_report what
verb_of (events.Goes name what) = verb_of_exchange what
verb_of (events.Meets name what) = verb_of_meeting what

-- the controller that a line goes to, if there is one
abbrev pub name_of : Event → List ℕ
name_of (events.Time now) = []
name_of (events.Comes name inv how) = name
name_of (events.Calls name what) = name
name_of (events.Uses name what bind) = name
name_of (events.Binds name what bind) = name
name_of (events.Asks name what) = name
name_of (events.Goes name what) = name
name_of (events.Meets name what) = name
