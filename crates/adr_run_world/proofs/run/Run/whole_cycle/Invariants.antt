use Rattle.adr_run_world.specs.Run.{IsTidy, world_of}
use Rattle.adr_run_world.proofs.RingLemmas.{IsPulled}
use Rattle.adr_run_world.proofs.run.Run.whole_cycle.Given as goal

-- what is left comes to what all would
abbrev pub invariant-pulls : goal.invariant-pulls
invariant-pulls l = record {
  tidy : IsTidy l.self;
  pulled : IsPulled (world_of l.fn.self) l.dest l.source l.max l.turn (world_of l.self);
}
