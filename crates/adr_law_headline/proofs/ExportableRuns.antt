-- Every directory of a run is exportable, where what is written is whole.
use Rattle.std.proofs.Common.{◌≡◌, List, Bool, true, false, refl, subst, if◌then◌else◌}
use Rattle.adr_call.specs.declared.event.Event.{Event}
use Rattle.adr_schedule.proofs.ScheduleLaws.{schedules_read, text_follows}
use Rattle.adr_model.specs.Member.{Member}
use Rattle.adr_model.specs.Directory.{directory}
use Rattle.adr_model.specs.Replica.{Replica}
use Rattle.adr_model.specs.World.{in_view, World, empty_world, shown}
use Rattle.adr_model.specs.Sound.{IsWorldOfRun}
use Rattle.adr_model.specs.Convergence.{MayAllHappen, held_by}
use Rattle.adr_law_convergence.proofs.Controllers.{shows_what_is_visible}
use Rattle.adr_json.specs.Exportable.{IsExportable}
use Rattle.adr_law_headline.specs.Formed.{AreFormed, AreFormedThroughout}
use Rattle.adr_law_headline.specs.Printable.{ShowPrintable, ArePrintableThroughout}
use Rattle.adr_law_headline.proofs.Throughout.{both_always, runs_always_sound}
use Rattle.adr_law_headline.proofs.FormedRuns.{runs_are_formed}
use Rattle.adr_law_headline.proofs.PrintableRuns.{runs_are_printable}
use Rattle.adr_law_headline.proofs.Following.{following_may}
use Rattle.adr_law_headline.proofs.Texts.{every_text}
use Rattle.adr_law_headline.specs.Exportable.{ShowExportable, AreExportableThroughout, RunsAreExportable, TextsAreExportable}
use Rattle.adr_law_headline.proofs.ShownExportable.{exportable_where_printable}

-- what a controller answers is what it holds shows
answers_what_it_holds : (w : World) → IsWorldOfRun w → (r : Replica) → Member r w.replicas → directory (held_by r) ≡ shown w r.safe
answers_what_it_holds w run r m = by w.clean refl
  where
    by : (b : Bool) → w.clean ≡ b → directory (held_by r) ≡ directory (if b then in_view w r.safe else held_by r)
    by true clean = shows_what_is_visible w (run.sound clean) r m
    by false clean = refl

world_exportable : (w : World) → IsWorldOfRun w → AreFormed w × ShowPrintable w → ShowExportable w
world_exportable w run is r m = (held, subst IsExportable (answers_what_it_holds w run r m) held)
  where
    held : IsExportable (directory (held_by r))
    held = exportable_where_printable r.safe (is.0 r m).0 (is.1 r m).0

-- where states are formed and directories printable
always_exportable : (es : List Event) → MayAllHappen empty_world es → AreFormedThroughout es → ArePrintableThroughout es
    → AreExportableThroughout es
always_exportable es may formed printable =
    both_always es (runs_always_sound es may) (both_always es formed printable (λ w f p. (f, p))) world_exportable

pub runs_are_exportable : RunsAreExportable
runs_are_exportable es may typed so = always_exportable es may (runs_are_formed es may typed) (runs_are_printable es may typed so)

pub texts_are_exportable : TextsAreExportable
texts_are_exportable text es is = let t = every_text text es is in
    always_exportable es (following_may es (text_follows text es (schedules_read text es is))) t.1 t.2
