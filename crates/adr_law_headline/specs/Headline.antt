-- What is claimed of every run of a text.
use Rattle.std.specs.Prelude.{◌≡◌, ℕ, List, [], ◌∷◌, ◌++◌, true, codes}
use Rattle.adr_call.specs.declared.outcome.Outcome.TheVariants as outcomes
use Rattle.adr_call.specs.declared.report.Report.TheVariants.{Directory}
use Rattle.adr_call.specs.declared.event.Event.{Event}
use Rattle.adr_call.specs.declared.event.Event.TheVariants as events
use Rattle.adr_schedule.specs.Schedules.{IsSchedule}
use Rattle.adr_model.specs.Member.{Each}
use Rattle.adr_model.specs.Directory.{directory}
use Rattle.adr_model.specs.Replica.{Up}
use Rattle.adr_model.specs.World.{in_view, World, empty_world, answer}
use Rattle.adr_model.specs.Step.{step}
use Rattle.adr_model.specs.Sound.{WereTold}
use Rattle.adr_model.specs.Convergence.{PutsNothingBack, ShowWhatIsVisible, ShowAlike, behind, StaysInView, IsPurgedCovered}
use Rattle.adr_law_convergence.specs.Rounds.{ComeTogether, RingsTell}
use Rattle.adr_law_headline.specs.Throughout.{HoldsBehind, HoldsThroughout, HoldsOfEachLine, HoldsOfEveryLine}
use Rattle.adr_law_headline.specs.Formed.{AreFormedThroughout}
use Rattle.adr_law_headline.specs.Printable.{ArePrintableThroughout}
use Rattle.adr_law_headline.specs.Modes.{AreNormal, LeavesAllNormal}
use Rattle.adr_law_headline.specs.Cycles.{CyclesEnd}
use Rattle.adr_law_headline.specs.Revived.{RevivesShow}
use Rattle.adr_law_headline.specs.Refused.{FindsNoDamage, FindsNobodyTooOld, LeavesAllCovered}

-- a controller that is up answers a `show` by the directory of what it has in view, and nothing changes
abbrev pub AnswerByTheirView : World → Type 0
AnswerByTheirView w =
    Each (λ r. r.standing ≡ Up → step w (events.Asks r.name Directory) ≡ (w, answer (codes "show") r.name (outcomes.Show (directory (in_view w r.safe))) ∷ [])) w.replicas

-- each time beside a controller's vector was told: a last reply of that incarnation was made then, and the controller covers what that one had
abbrev pub TimesWereTold : World → Type 0
TimesWereTold w = Each (λ r. WereTold w r.safe.store.vector r.safe.store.times) w.replicas

-- No database was put back where no line so far puts one back. Wherever a run stands, as long as none was: each controller that
-- is up answers by the directory of the issued updates that it covers or holds, and that of the rows which it holds is the same;
-- controllers that cover the same, and hold nothing beyond, show the same; and every write that was acknowledged so far is among
-- what is in view for whoever has its identifier, each row of it. Each time that a controller has of another one was told by a last
-- reply of that one, at that time. Lines that are whole cycles, in rounds over connections, bring
-- together whom they connect, and a `ring` line that is answered ok tells so. A cycle with nothing in its way, where no limit is
-- met, leaves its destination everything that the source held, or says that there is more; it is whole where the source has no more
-- units beyond the mark than a cycle may take replies. No controller is quarantined, neither here nor in a clean world on the way
-- of the next line: neither what a crash would leave of it nor what a start would find. No line's answer is that a controller is
-- quarantined or was put back, or that an item is broken or incomplete, and none is that someone is too old while everyone covers
-- what was collected: everyone does at the beginning, and then as long as each line keeps it so. And whether or not a database was
-- put back, an object that a `revive` brought again is shown as its image shows it
pub record Headline (es : List Event) : Type 0 where
  pub clean : (before after : List Event) → es ≡ before ++ after → PutsNothingBack before → (behind before).clean ≡ true
  pub answered : HoldsThroughout es AnswerByTheirView
  pub shown : HoldsThroughout es ShowWhatIsVisible
  pub equal : HoldsThroughout es ShowAlike
  pub acknowledged : (before mid after : List Event) (e : Event) → es ≡ before ++ e ∷ mid ++ after → (behind (before ++ e ∷ mid)).clean ≡ true → StaysInView before e mid
  pub times : HoldsThroughout es TimesWereTold
  pub together : HoldsBehind es ComeTogether
  pub rings : HoldsThroughout es RingsTell
  pub cycles : HoldsThroughout es CyclesEnd
  pub normal : HoldsThroughout es AreNormal
  pub stays_normal : HoldsOfEachLine es LeavesAllNormal
  pub undamaged : HoldsOfEachLine es FindsNoDamage
  pub young : HoldsOfEachLine es FindsNobodyTooOld
  pub revived : HoldsOfEveryLine es RevivesShow
  pub begins_covered : IsPurgedCovered empty_world
  pub stays_covered : HoldsOfEachLine es LeavesAllCovered

-- the run of a text that is a schedule; its states are formed and its directories printable even behind a database that was put back,
-- and in every world on the way of a line
abbrev pub IsHeadline : List ℕ → Type 0
IsHeadline text = (es : List Event) → IsSchedule text es → Headline es × AreFormedThroughout es × ArePrintableThroughout es
