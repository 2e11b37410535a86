-- Every directory of a run of events that the program does is printable, so that its lines tell it, where the identifiers that are
-- written have sixteen bytes.
-- That bytes are below 256 is part of it: that an event is typed says only how many there are.
use Rattle.std.specs.Prelude.{List, IfSome}
use Rattle.adr_values.specs.declared.stamp.Oid.{Oid}
use Rattle.adr_values.specs.Assignments.{Given}
use Rattle.adr_values.specs.declared.content.Content.TheVariants.{Class, Name, Dead, Values}
use Rattle.adr_call.specs.declared.directory.Entry.{Entry}
use Rattle.adr_call.specs.declared.event.Event.{Event}
use Rattle.adr_call.specs.declared.event.Event.TheVariants as events
use Rattle.adr_call.specs.declared.event.Use.TheVariants as uses
use Rattle.adr_token.specs.Laws.{IsIdentifier}
use Rattle.adr_model.specs.Member.{Each}
use Rattle.adr_model.specs.Update.{Said, Holds, IsPresent, Update, ends}
use Rattle.adr_model.specs.Write.{Write, AddObject, Modify, Rename, Delete, AddLink, RemoveLink, Revive}
use Rattle.adr_model.specs.Directory.{directory}
use Rattle.adr_model.specs.Store.{updates_of}
use Rattle.adr_model.specs.World.{World, empty_world, shown}
use Rattle.adr_model.specs.Step.{ClientWrite, write_of}
use Rattle.adr_model.specs.Convergence.{MayAllHappen, held_by}
use Rattle.adr_answers.specs.Printable.{IsPrintable}
use Rattle.adr_answers.specs.Laws.{IsWholeReference}
use Rattle.adr_law_headline.specs.Throughout.{HoldsAlways}
use Rattle.adr_law_headline.specs.Formed.{AreAllTyped}

abbrev pub AreWholeValues : List Given → Type 0
AreWholeValues values = Each (λ (g : Given). Each IsWholeReference g.1) values

-- ---- rows

-- the identifiers in what a row says have sixteen bytes
abbrev pub IsWholeSaid : Said → Type 0
IsWholeSaid (Holds (Class class)) = Unit {0}
IsWholeSaid (Holds (Name text parent)) = IsIdentifier parent
IsWholeSaid (Holds Dead) = Unit {0}
IsWholeSaid (Holds (Values vs)) = Each IsWholeReference vs
IsWholeSaid (IsPresent present) = Unit {0}

-- and so have those of the objects that it is about
pub record IsWholeRow (u : Update) : Type 0 where
  pub about : Each (λ (o : Oid). IsIdentifier o.guid) (ends u.key)
  pub says : IsWholeSaid u.said

-- ---- writes

-- the identifiers of a write have sixteen bytes, and so have those of the rows of an image
abbrev pub IsWholeWrite : Write → Type 0
IsWholeWrite (AddObject guid class parent text values) = IsIdentifier guid × IsIdentifier parent × AreWholeValues values
IsWholeWrite (Modify guid values) = IsIdentifier guid × AreWholeValues values
IsWholeWrite (Rename guid parent text) = IsIdentifier guid × IsIdentifier parent
IsWholeWrite (Delete guid) = IsIdentifier guid
IsWholeWrite (AddLink from attr to) = IsIdentifier from × IsIdentifier to
IsWholeWrite (RemoveLink from attr to) = IsIdentifier from × IsIdentifier to
IsWholeWrite (Revive image guid parent text) = Each IsWholeRow (updates_of image.rows) × IsIdentifier guid × IsIdentifier parent

-- if an event alone says a write, something holds of what is written
abbrev pub WritesSo : (Write → Type 0) → Event → Type 0
WritesSo Q e = IfSome (write_of empty_world e) (λ (w : ClientWrite). Q w.what)

-- what an event says of what is written is whole; a revival's image is none of the event's
abbrev pub IsWholeEvent : Event → Type 0
IsWholeEvent (events.Uses name (uses.Revive guid parent text) image) = IsIdentifier guid × IsIdentifier parent
IsWholeEvent e = WritesSo IsWholeWrite e

-- each of the events is so
abbrev pub WriteWhole : List Event → Type 0
WriteWhole es = Each IsWholeEvent es

-- ---- runs

-- every controller's directory is so: that of what it holds, and what it answers where it is asked
abbrev pub AllShow : (List Entry → Type 0) → World → Type 0
AllShow IsSo w = Each (λ r. IsSo (directory (held_by r)) × IsSo (shown w r.safe)) w.replicas

abbrev pub ShowPrintable : World → Type 0
ShowPrintable = AllShow IsPrintable

-- at every place of a run and on the way of each line, whether or not a database was put back
abbrev pub ArePrintableThroughout : List Event → Type 0
ArePrintableThroughout es = HoldsAlways es ShowPrintable

-- every run is so of events that the program does, and that write what is whole
abbrev pub RunsAre : (List Event → Type 0) → Type 0
RunsAre AreSo = (es : List Event) → MayAllHappen empty_world es → AreAllTyped es → WriteWhole es → AreSo es

abbrev pub RunsArePrintable : Type 0
RunsArePrintable = RunsAre ArePrintableThroughout
