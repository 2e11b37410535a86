use Rattle.std.proofs.Common.{◌≡◌, ◌≤◌}
use Rattle.std.specs.Prelude.{◌↔◌, IfSome, IsSome}
use Rattle.adr_disk.specs.Disk.{LeavesOnly}
use Rattle.adr_outside.specs.Traffic.{Traffic}
use Rattle.adr_pull.specs.Fetch.{Point, reply_limit}
use Rattle.adr_pull.specs.Told.{FindsBehind, IsAt}
use Rattle.adr_pull.proofs.Going.{GoesOn, course}
use Rattle.adr_pull.proofs.pulling.fetch.Given as goal

-- all stand behind so many requests, and a crash so far leaves some of them
abbrev pub invariant-loop-turn : goal.invariant-loop-turn
invariant-loop-turn g l = record {
  up : IsSome l.controller.state;
  at :
      (t : Traffic) (p : Point) → IsAt g.K.Keeper t p l.fn.controller (g.N.Net.traffic l.fn.net) (g.S.Sink.written l.fn.sink)
      → GoesOn g.K.Keeper t l.name l.partner p l.turn l.controller (g.N.Net.traffic l.net) (g.S.Sink.written l.sink);
  crash :
      (t : Traffic) (p : Point) → IsAt g.K.Keeper t p l.fn.controller (g.N.Net.traffic l.fn.net) (g.S.Sink.written l.fn.sink)
      → IfSome (g.K.Keeper.told l.fn.controller.keeper) (λ _.
      LeavesOnly g.K.Keeper.moment g.K.Keeper.left_since l.fn.controller.keeper l.controller.keeper (FindsBehind
      (course g.K.Keeper t l.name l.partner p) reply_limit));
  told : IsSome (g.K.Keeper.told l.controller.keeper) ↔ IsSome (g.K.Keeper.told l.fn.controller.keeper);
  disk : g.K.Keeper.faults l.fn.controller.keeper ≤ g.K.Keeper.faults l.controller.keeper;
  lines : g.N.Net.lines l.net ≡ g.N.Net.lines l.fn.net;
  sink : g.S.Sink.faults l.fn.sink ≤ g.S.Sink.faults l.sink;
  doors : g.N.Net.doors l.net ≡ g.N.Net.doors l.fn.net;
}
