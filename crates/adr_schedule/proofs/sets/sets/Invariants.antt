use Rattle.std.proofs.Common.{length}
use Rattle.adr_schedule.specs.Sets.{sets_at}
use Rattle.adr_schedule.proofs.LineSets.{Reads}
use Rattle.adr_schedule.proofs.sets.sets.Given as goal

-- what is given, and what is left to read, make what the line gives
abbrev pub invariant-sets : goal.invariant-sets
invariant-sets l = Reads l.given l.line (sets_at l.fn.line)

abbrev pub decreases-sets : goal.decreases-sets
decreases-sets l = length l.line
