use Rattle.std.proofs.Common.{◌≤◌, length}
use Rattle.adr_io.proofs.ReadLemmas.{HasRead}
use Rattle.adr_io.proofs.reading.read_at_most.Given as goal

-- the bytes so far are the front of what was left, at least one for each turn, and the rest is left
abbrev pub invariant-turns : goal.invariant-turns
invariant-turns g l = record {
  told : HasRead (g.S.Source.left l.fn.source) (g.S.Source.left l.source) l.bytes.items;
  turns : l.turn ≤ length l.bytes.items;
  most : length l.bytes.items ≤ l.fn.most;
  faults : g.S.Source.faults l.fn.source ≤ g.S.Source.faults l.source;
}
