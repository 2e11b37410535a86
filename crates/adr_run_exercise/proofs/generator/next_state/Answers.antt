use Rattle.std.proofs.Common.{rules}
use Rattle.std.proofs.Math.Nat.{mod-add-mod}
use Rattle.adr_run_exercise.specs.Generated.{next_state}
use Rattle.adr_run_exercise.proofs.generator.next_state.Goals as goal

pub returns : goal.returns
unfolding next_state
returns c = search (rules, mod-add-mod)
