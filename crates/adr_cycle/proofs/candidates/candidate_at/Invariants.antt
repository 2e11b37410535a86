use Rattle.std.proofs.Common.{◌≡◌, ◌⊎◌, ◌<◌, None, length}
use Rattle.adr_update.specs.Sought.{units_at}
use Rattle.adr_cycle.proofs.Choosing.{chosen}
use Rattle.adr_cycle.proofs.Lefts.{AreLeft, under}
use Rattle.adr_cycle.proofs.candidates.candidate_at.Given as goal

-- the choice among the units that are left under the number, over the one so far, is that among all
abbrev pub invariant-loop-unit : goal.invariant-loop-unit
invariant-loop-unit l = record {
  whole : chosen l.rows l.from l.asked l.last (under l.usn l.walk) ≡ chosen l.rows l.from l.asked None (units_at l.rows l.usn);
  left : AreLeft l.rows l.usn l.walk;
  fewer : (l.walk ≡ l.initial.walk) ⊎ (length l.walk < length l.initial.walk);
}

abbrev pub decreases-loop-unit : goal.decreases-loop-unit
decreases-loop-unit l = length l.walk
