use Rattle.std.proofs.Common.{◌≤◌, drop}
use Rattle.adr_model.specs.Convergence.{MayAllHappen}
use Rattle.adr_run_world.specs.Played.{output_from}
use Rattle.adr_answers.proofs.Due.{Remains}
use Rattle.adr_run_world.proofs.playing.play_on.Given as goal

-- what is due is what the events that are left write
abbrev pub invariant-loop-event : goal.invariant-loop-event
invariant-loop-event g l = record {
  due : Remains (g.K.Sink.written l.fn.sink) (g.K.Sink.written l.sink) (output_from l.fn.world l.events) (output_from l.world (drop l.event-index l.events));
  may : MayAllHappen l.world (drop l.event-index l.events);
  faults : g.K.Sink.faults l.fn.sink ≤ g.K.Sink.faults l.sink;
}
