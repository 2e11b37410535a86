use Rattle.std.proofs.Common.{◌≡◌, true, take}
use Rattle.adr_values.specs.Vector.{at_most}
use Rattle.adr_model.specs.Change.{after}
use Rattle.adr_records.proofs.numbers.is_purged_within.Given as goal

-- no more than that is purged so far
abbrev pub invariant-loop-inv : goal.invariant-loop-inv
invariant-loop-inv l = at_most (take l.inv-index l.inv-items) (after l.state l.change).store.vector ≡ true
