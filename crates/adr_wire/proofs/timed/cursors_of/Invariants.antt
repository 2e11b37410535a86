use Rattle.std.proofs.Common.{◌≡◌, take}
use Rattle.adr_values.specs.Dated.{cursors_of}
use Rattle.adr_wire.proofs.timed.cursors_of.Given as goal

abbrev pub invariant-loop-one : goal.invariant-loop-one
invariant-loop-one l = l.cursors.items ≡ cursors_of (take l.one-index l.dated)
