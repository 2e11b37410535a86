-- What is claimed of texts is so of generated schedules.
use Rattle.adr_law_headline.proofs.Claimed.{headline}
use Rattle.adr_law_headline.proofs.Following.{following_may}
use Rattle.adr_law_headline.proofs.FormedRuns.{runs_are_formed}
use Rattle.adr_law_headline.proofs.PrintableRuns.{runs_are_printable}
use Rattle.adr_law_headline.proofs.Typing.{following_all_typed, following_whole}
use Rattle.adr_run_exercise.specs.Generated.{schedule}
use Rattle.adr_run_exercise.specs.Laws.{SchedulesFollow}
use Rattle.adr_run_replay.specs.Outcome.{GeneratedRunsAreSo}

pub generated_so : SchedulesFollow → GeneratedRunsAreSo
generated_so all_follow number few =
    let es = schedule number in
    let follow = all_follow number few in
    let may = following_may es follow in
    let typed = following_all_typed es follow in
    (headline es may, runs_are_formed es may typed, runs_are_printable es may typed (following_whole es follow))
