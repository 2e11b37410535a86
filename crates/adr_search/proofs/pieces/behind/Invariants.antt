use Rattle.std.proofs.Common.{◌≡◌, drop}
use Rattle.adr_search.specs.Behind.{behind}
use Rattle.adr_search.proofs.pieces.behind.Given as goal

-- the first place is among those that are left
abbrev pub invariant-loop-start : goal.invariant-loop-start
invariant-loop-start l = behind l.piece (drop l.start l.bytes) ≡ behind l.piece l.bytes
