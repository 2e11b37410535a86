use Rattle.std.proofs.Common.{◌≡◌, take}
use Rattle.adr_tree.specs.Hints.{number_of}
use Rattle.adr_tree.proofs.hints.number_of.Given as goal

abbrev pub invariant-loop-byte : goal.invariant-loop-byte
invariant-loop-byte l = l.number ≡ number_of (take l.byte-index l.byte-items)
