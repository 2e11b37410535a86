use Rattle.std.proofs.Common.{◌≡◌}
use Rattle.adr_run_world.specs.Run.{IsSoundRun, world_of}
use Rattle.adr_run_world.proofs.Left.{AreTold}
use Rattle.adr_run_world.proofs.run.Run.step.Given as goal

-- so far it is what some whole turns come to, and their answers are written
abbrev pub invariant-loop-turn : goal.invariant-loop-turn
invariant-loop-turn g l = record {
  sound : IsSoundRun l.self;
  told : AreTold (world_of l.fn.self) l.event l.turn (world_of l.self) (g.K.Sink.written l.fn.sink) (g.K.Sink.written l.sink);
  faults : g.K.Sink.faults l.sink ≡ g.K.Sink.faults l.fn.sink;
}
