use Rattle.adr_run_exercise.specs.Generated.{group_added}
use Rattle.adr_run_exercise.proofs.Ranges.{grown_by_one}
use Rattle.adr_run_exercise.proofs.lines.push_groups.Goals as goal

pub loop-g-preserved : goal.loop-g-preserved
loop-g-preserved c =
    grown_by_one group_added c.loop-g.g c.args.events.now.items c.loop-g.events.items c.push_group.new.events.items
    c.loop-g.invariant c.in_ok-push_group.ensures
