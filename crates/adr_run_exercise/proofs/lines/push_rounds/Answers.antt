use Rattle.adr_run_exercise.proofs.Ranges.{grown_by_round}
use Rattle.adr_run_exercise.proofs.lines.push_rounds.Goals as goal

pub loop-round-preserved : goal.loop-round-preserved
loop-round-preserved c =
    grown_by_round c.loop-round._round c.args.events.now.items c.loop-round.events.items c.push_round.new.events.items
    c.loop-round.invariant c.in_ok-push_round.ensures
