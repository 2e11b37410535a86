use Rattle.std.proofs.Common.{length}
use Rattle.adr_cycle.specs.Candidates.{AreBehind}
use Rattle.adr_cycle.proofs.candidates.next_candidate.Given as goal

-- no item was passed
abbrev pub invariant-loop-local : goal.invariant-loop-local
invariant-loop-local l = AreBehind l.rows l.from l.asked l.usn l.walk

abbrev pub decreases-loop-local : goal.decreases-loop-local
decreases-loop-local l = length l.walk
