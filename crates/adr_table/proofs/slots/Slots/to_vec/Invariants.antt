use Rattle.std.proofs.Common.{◌≡◌, ◌++◌, length}
use Rattle.adr_update.specs.Referents.{referents}
use Rattle.adr_table.specs.Slots.{seen}
use Rattle.adr_table.proofs.slots.Slots.to_vec.Given as goal

-- the rows so far and those that are left are all
abbrev pub invariant-loop-row : goal.invariant-loop-row
invariant-loop-row l = referents l.rows.items ++ seen l.run ≡ seen l.self.map

abbrev pub decreases-loop-row : goal.decreases-loop-row
decreases-loop-row l = length l.run
