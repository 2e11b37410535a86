-- Every directory of a run is printable, where what is written is whole.
use Rattle.std.proofs.Common.{◌≡◌, ⊎_elim, ℕ, ◌+◌, [], ◌∷◌, Bool, true, false, refl, subst, if◌then◌else◌}
use Rattle.adr_call.specs.declared.event.Event.{Event}
use Rattle.adr_call.specs.declared.event.Event.TheVariants as events
use Rattle.adr_call.specs.declared.event.Use.TheVariants as uses
use Rattle.adr_model.specs.Member.{Each}
use Rattle.adr_model.specs.Store.{State, updates_of}
use Rattle.adr_model.specs.Change.{updates_written}
use Rattle.adr_model.specs.Write.{Write, AddObject, Modify, Rename, Delete, AddLink, RemoveLink, Revive, rows_written, own_change}
use Rattle.adr_model.specs.Directory.{directory}
use Rattle.adr_model.specs.Replica.{Replica}
use Rattle.adr_model.specs.World.{in_view, World, shown}
use Rattle.adr_model.specs.Sound.{IsWorldOfRun}
use Rattle.adr_model.specs.Convergence.{held_by}
use Rattle.adr_model.proofs.Members.{member_of_either}
use Rattle.adr_law_convergence.proofs.Controllers.{shows_what_is_visible}
use Rattle.adr_answers.specs.Printable.{IsPrintable}
use Rattle.adr_law_headline.specs.Printable.{IsWholeEvent, IsWholeWrite, ShowPrintable, RunsArePrintable, IsWholeRow}
use Rattle.adr_law_headline.proofs.Throughout.{both_always, runs_always_sound}
use Rattle.adr_law_headline.proofs.WholeRows.{written_whole}
use Rattle.adr_law_headline.proofs.RevivedWhole.{revived_whole}
use Rattle.adr_law_headline.proofs.ShownPrintable.{shows_printable}
use Rattle.adr_law_recorded.proofs.Served.{logged_says}
use Rattle.adr_law_headline.proofs.StayingFormed.{IsInForm}
use Rattle.adr_law_headline.proofs.FormedCalls.{IsWorldInForm}
use Rattle.adr_law_headline.proofs.FormedRuns.{AreKeptByWrites, SaysSo, runs_in_form}

-- what a controller answers is what it holds shows
answered_printable : (w : World) (r : Replica) → (w.clean ≡ true → directory (held_by r) ≡ directory (in_view w r.safe)) → IsPrintable (directory (held_by r)) → IsPrintable (shown w r.safe)
answered_printable w r same held = by w.clean refl
  where
    by : (b : Bool) → w.clean ≡ b → IsPrintable (directory (if b then in_view w r.safe else held_by r))
    by true clean = subst IsPrintable (same clean) held
    by false clean = held

-- a world of a run whose states are in form and whose rows are whole
world_printable : (w : World) → IsWorldOfRun w → IsWorldInForm IsWholeRow w → ShowPrintable w
world_printable w run form r m = (held, answered_printable w r (λ clean. shows_what_is_visible w (run.sound clean) r m) held)
  where
    is : IsInForm IsWholeRow r.safe
    is = (form.replicas r m).0

    held : IsPrintable (directory (held_by r))
    held = shows_printable r.safe.store.schema (held_by r) is.logged.formed.store.rows is.logged.classes (logged_says r.safe is.logged) is.rows

-- what is no revival writes one item
one_whole : (s : State) (w : Write) (now : ℕ) → Each IsWholeRow (updates_of s.store.rows) → IsWholeWrite w → Each IsWholeRow (updates_written (own_change s (record { local = s.store.usn + 1; item = rows_written s w now } ∷ [])))
one_whole s w now whole given u m = ⊎_elim (λ n. written_whole s w now whole given u n) (λ none. absurd none) (member_of_either (rows_written s w now).rows [] u m)

kept_whole : AreKeptByWrites IsWholeRow IsWholeWrite
kept_whole s (Revive image guid parent text) now whole given = revived_whole s image guid parent text now whole given
kept_whole s (AddObject guid class parent text values) now whole given = one_whole s (AddObject guid class parent text values) now whole given
kept_whole s (Modify guid values) now whole given = one_whole s (Modify guid values) now whole given
kept_whole s (Rename guid parent text) now whole given = one_whole s (Rename guid parent text) now whole given
kept_whole s (Delete guid) now whole given = one_whole s (Delete guid) now whole given
kept_whole s (AddLink from attr to) now whole given = one_whole s (AddLink from attr to) now whole given
kept_whole s (RemoveLink from attr to) now whole given = one_whole s (RemoveLink from attr to) now whole given

-- what a line says is whole
says_whole : (e : Event) → IsWholeEvent e → SaysSo IsWholeRow IsWholeWrite e
says_whole (events.Uses name (uses.Revive guid parent text) image) so = λ i is. (is.rows, so.0, so.1)
says_whole e so = so

pub runs_are_printable : RunsArePrintable
runs_are_printable es may typed so = both_always es (runs_always_sound es may) (runs_in_form IsWholeRow IsWholeWrite kept_whole es may typed (λ e m. says_whole e (so e m))) world_printable
