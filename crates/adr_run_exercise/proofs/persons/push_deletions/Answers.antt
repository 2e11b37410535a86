use Rattle.adr_run_exercise.specs.Generated.{person_deleted}
use Rattle.adr_run_exercise.proofs.Ranges.{grown}
use Rattle.adr_run_exercise.proofs.persons.push_deletions.Goals as goal

pub loop-k-preserved : goal.loop-k-preserved
loop-k-preserved c =
    grown person_deleted c.loop-k.k c.push_time.new.events.items c.loop-k.events.items c.push_deleted.new.events.items
    c.loop-k.invariant c.in_ok-push_deleted.ensures
