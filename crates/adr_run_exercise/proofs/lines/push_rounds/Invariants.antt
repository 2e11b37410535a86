use Rattle.std.proofs.Common.{◌≡◌, ◌++◌}
use Rattle.adr_run_exercise.specs.Generated.{rounds}
use Rattle.adr_run_exercise.proofs.lines.push_rounds.Given as goal

-- so many rounds stand behind what was there
abbrev pub invariant-loop-round : goal.invariant-loop-round
invariant-loop-round l = l.events.items ≡ l.fn.events.items ++ rounds l._round
