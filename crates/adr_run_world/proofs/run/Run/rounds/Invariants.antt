use Rattle.std.proofs.Common.{◌-◌}
use Rattle.adr_model.specs.Rings.{ring, times}
use Rattle.adr_run_world.specs.Run.{IsSoundRun, world_of}
use Rattle.adr_run_world.proofs.RingLemmas.{IsDue}
use Rattle.adr_run_world.proofs.run.Run.rounds.Given as goal

-- the rounds that are left come to what all would
abbrev pub invariant-rounds : goal.invariant-rounds
invariant-rounds l = record {
  sound : IsSoundRun l.self;
  due : IsDue (times l.rounds (ring l.first l.others)) l.max (world_of l.fn.self) (times (l.rounds - l.done) (ring l.first l.others)) (world_of l.self);
}
