-- Whatever a text says may happen.
use Rattle.std.proofs.Common.{List, ℕ}
use Rattle.adr_schedule.proofs.ScheduleLaws.{schedules_read, text_follows}
use Rattle.adr_law_headline.specs.Headline.{IsHeadline}
use Rattle.adr_law_headline.proofs.Claimed.{headline}
use Rattle.adr_law_headline.proofs.Following.{following_may}
use Rattle.adr_law_headline.proofs.FormedRuns.{runs_are_formed}
use Rattle.adr_law_headline.proofs.PrintableRuns.{runs_are_printable}
use Rattle.adr_law_headline.proofs.Typing.{following_all_typed, following_whole}

-- what is claimed of a run holds of every text
pub every_text : (text : List ℕ) → IsHeadline text
every_text text es is =
    let follow = text_follows text es (schedules_read text es is) in
    let may = following_may es follow in
    let typed = following_all_typed es follow in
    (headline es may, runs_are_formed es may typed, runs_are_printable es may typed (following_whole es follow))
