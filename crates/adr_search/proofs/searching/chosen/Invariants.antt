use Rattle.std.proofs.Common.{◌≡◌, ◌++◌, drop}
use Rattle.adr_search.specs.Plans.{chosen, truth_in}
use Rattle.adr_search.proofs.searching.chosen.Given as goal

-- those so far, and then those that are left
abbrev pub invariant-loop-place : goal.invariant-loop-place
invariant-loop-place l = l.guids.items ++ chosen (truth_in l.plan) (drop l.place l.marks) (drop l.place l.entries) ≡ chosen (truth_in l.plan) l.marks l.entries
