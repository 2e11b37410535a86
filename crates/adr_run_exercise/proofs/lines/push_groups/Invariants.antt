use Rattle.std.proofs.Common.{◌≡◌, ◌++◌, map}
use Rattle.std.specs.List.{range_with_len}
use Rattle.adr_run_exercise.specs.Generated.{group_added}
use Rattle.adr_run_exercise.proofs.lines.push_groups.Given as goal

-- so many groups stand behind what was there
abbrev pub invariant-loop-g : goal.invariant-loop-g
invariant-loop-g l = l.events.items ≡ l.fn.events.items ++ map group_added (range_with_len 0 l.g)
