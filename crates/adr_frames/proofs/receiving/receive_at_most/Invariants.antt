use Rattle.std.proofs.Common.{◌≡◌, ◌≤◌, length}
use Rattle.adr_frames.proofs.ReceivedLemmas.{HasCome}
use Rattle.adr_frames.proofs.receiving.receive_at_most.Given as goal

-- the bytes so far are the front of what was left, at least one for each turn, and the rest is left
abbrev pub invariant-turns : goal.invariant-turns
invariant-turns g l = record {
  told : HasCome (g.N.Net.traffic l.fn.net) (g.N.Net.traffic l.net) l.bytes.items;
  turns : l.turn ≤ length l.bytes.items;
  most : length l.bytes.items ≤ l.fn.most;
  lines : g.N.Net.lines l.net ≡ g.N.Net.lines l.fn.net;
  doors : g.N.Net.doors l.net ≡ g.N.Net.doors l.fn.net;
}
