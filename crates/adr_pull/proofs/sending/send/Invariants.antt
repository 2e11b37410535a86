use Rattle.std.proofs.Common.{◌≡◌, ◌≤◌, true, length}
use Rattle.adr_outside.specs.Traffic.{Traffic}
use Rattle.adr_pull.specs.Sending.{IsAt, Place, spoken}
use Rattle.adr_pull.proofs.Sent.{GoesOn}
use Rattle.adr_pull.proofs.sending.send.Given as goal

-- the lines so far were sent and answered, and those of what is left follow
abbrev pub invariant-lines : goal.invariant-lines
invariant-lines g l = record {
  at :
      (t : Traffic) (p : Place) → p.accepted ≡ true → IsAt t p (g.N.Net.traffic l.fn.net) (g.S.Sink.written l.fn.sink)
      → GoesOn t p (spoken l.text) (spoken l.rest) l.all (g.N.Net.traffic l.net) (g.S.Sink.written l.sink);
  lines : g.N.Net.lines l.net ≡ g.N.Net.lines l.fn.net;
  sink : g.S.Sink.faults l.fn.sink ≤ g.S.Sink.faults l.sink;
  doors : g.N.Net.doors l.net ≡ g.N.Net.doors l.fn.net;
}

abbrev pub decreases-lines : goal.decreases-lines
decreases-lines g l = length l.rest
