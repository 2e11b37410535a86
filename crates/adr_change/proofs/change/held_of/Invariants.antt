use Rattle.std.proofs.Common.{◌≡◌}
use Rattle.adr_model.specs.Change.{held_of}
use Rattle.adr_change.proofs.change.held_of.Given as goal

-- the rows of the writes so far
abbrev pub invariant-loop-written : goal.invariant-loop-written
invariant-loop-written l = l.rows.items ≡ held_of l.yielded
