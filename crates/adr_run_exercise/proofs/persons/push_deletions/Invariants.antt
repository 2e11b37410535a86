use Rattle.std.proofs.Common.{◌≡◌, ◌++◌, ◌*◌, ◌-◌}
use Rattle.std.specs.List.{range_with_len, flat_map}
use Rattle.adr_run_exercise.specs.Generated.{person_deleted}
use Rattle.adr_run_exercise.proofs.persons.push_deletions.Given as goal

-- the deletions of so many persons stand behind what was there
abbrev pub invariant-loop-k : goal.invariant-loop-k
invariant-loop-k l = l.events.items ≡ l.initial.events.items ++ flat_map person_deleted (range_with_len 0 l.k)

abbrev pub decreases-loop-k : goal.decreases-loop-k
decreases-loop-k l = 5 * l.n - l.k
