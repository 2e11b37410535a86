use Rattle.std.proofs.Common.{◌≡◌, take}
use Rattle.adr_values.specs.Dated.{moments_of}
use Rattle.adr_wire.proofs.timed.moments_of.Given as goal

abbrev pub invariant-loop-one : goal.invariant-loop-one
invariant-loop-one l = l.moments.items ≡ moments_of (take l.one-index l.dated)
