use Rattle.std.proofs.Common.{length}
use Rattle.adr_schedule.specs.Members.{names_at}
use Rattle.adr_schedule.proofs.LineNames.{Reads}
use Rattle.adr_schedule.proofs.members.members.Given as goal

-- the names so far, and what is left to read, make what the line makes
abbrev pub invariant-members : goal.invariant-members
invariant-members l = Reads l.fn.first l.names.items l.line (names_at l.fn.first l.fn.line)

abbrev pub decreases-members : goal.decreases-members
decreases-members l = length l.line
