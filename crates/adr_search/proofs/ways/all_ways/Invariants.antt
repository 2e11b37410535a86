use Rattle.std.proofs.Common.{◌-◌, ◌+◌, ◌<◌}
use Rattle.adr_search.specs.Ways.{AreWays}
use Rattle.adr_search.proofs.ways.all_ways.Given as goal

-- the ways are those of so many steps
abbrev pub invariant-loop-steps : goal.invariant-loop-steps
invariant-loop-steps l = record { some : 0 < l.steps; ways : AreWays l.entries l.fn.base l.steps l.ways.items }

abbrev pub decreases-loop-steps : goal.decreases-loop-steps
decreases-loop-steps l = l.most + 1 - l.steps
