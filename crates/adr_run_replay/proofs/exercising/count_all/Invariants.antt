use Rattle.std.proofs.Common.{◌≡◌, drop}
use Rattle.adr_model.specs.Convergence.{MayAllHappen}
use Rattle.adr_model.specs.Step.{after_lines, answers}
use Rattle.adr_run_world.specs.Counted.{counted}
use Rattle.adr_run_replay.proofs.exercising.count_all.Given as goal

-- with the events that are left it comes to what all come to
abbrev pub invariant-loop-event : goal.invariant-loop-event
invariant-loop-event l = record {
  stands : after_lines l.world (drop l.event-index l.events) ≡ after_lines l.fn.world l.events;
  counts : counted l.tally (answers l.world (drop l.event-index l.events)) ≡ counted l.fn.tally (answers l.fn.world l.events);
  may : MayAllHappen l.world (drop l.event-index l.events);
}
