use Rattle.std.proofs.Common.{length}
use Rattle.adr_table.specs.Lasts.{AreAmong, lasts_hinted}
use Rattle.adr_table.specs.Slots.{rows_seen}
use Rattle.adr_table.proofs.walk.first_behind.Given as goal

-- no unit behind the number was passed
abbrev pub invariant-loop-last : goal.invariant-loop-last
invariant-loop-last l = AreAmong (rows_seen l.slots) l.usn (lasts_hinted (rows_seen l.slots) l.hints)

abbrev pub decreases-loop-last : goal.decreases-loop-last
decreases-loop-last l = length (lasts_hinted (rows_seen l.slots) l.hints)
