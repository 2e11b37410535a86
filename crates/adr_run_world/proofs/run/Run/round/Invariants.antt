use Rattle.std.proofs.Common.{drop}
use Rattle.adr_model.specs.Rings.{in_line, ring}
use Rattle.adr_run_world.specs.Run.{IsSoundRun, world_of}
use Rattle.adr_run_world.proofs.RingLemmas.{IsDue}
use Rattle.adr_run_world.proofs.run.Run.round.Given as goal

-- the cycles that are left come to what all would
abbrev pub invariant-loop-name : goal.invariant-loop-name
invariant-loop-name l = record {
  sound : IsSoundRun l.self;
  due : IsDue (ring l.first l.others) l.max (world_of l.fn.self) (in_line l.before (drop l.name-index l.others)) (world_of l.self);
}
