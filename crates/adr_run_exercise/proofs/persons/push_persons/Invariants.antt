use Rattle.std.proofs.Common.{◌≡◌, ◌++◌, ◌*◌, ◌-◌, ◌/◌}
use Rattle.std.specs.List.{range_with_len, flat_map}
use Rattle.adr_run_exercise.specs.Generated.{person_lines, state}
use Rattle.adr_run_exercise.proofs.persons.push_persons.Given as goal

-- the lines of so many persons stand behind what was there, and the generator is where they leave it
abbrev pub invariant-loop-k : goal.invariant-loop-k
invariant-loop-k l = record {
  lines : l.events.items ≡ l.fn.events.items ++ flat_map (person_lines l.n) (range_with_len 0 l.k);
  state : l.generator ≡ state l.n (3 * (l.k / 7));
}

abbrev pub decreases-loop-k : goal.decreases-loop-k
decreases-loop-k l = 5 * l.n - l.k
