use Rattle.std.proofs.Common.{◌≡◌, List}
use Rattle.adr_call.specs.declared.answer.Answer.{Answer}
use Rattle.adr_run_world.specs.Counted.{counted}
use Rattle.adr_run_world.specs.Run.{IsSoundRun, world_of}
use Rattle.adr_run_world.proofs.Turns.{IsSoFar}
use Rattle.adr_run_world.proofs.run.Run.count.Given as goal

-- so far it is what some whole turns come to, and their answers are counted
abbrev pub invariant-loop-turn : goal.invariant-loop-turn
invariant-loop-turn l = record {
  sound : IsSoundRun l.self;
  told : (answers : List Answer) × IsSoFar (world_of l.fn.self) l.event l.turn (world_of l.self) answers × (l.tally ≡ counted l.fn.tally answers);
}
