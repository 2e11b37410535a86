use Rattle.std.proofs.Common.{◌≡◌, ◌≤◌}
use Rattle.std.specs.Prelude.{IfSome, IsSome}
use Rattle.adr_disk.specs.Disk.{LeavesOnly}
use Rattle.adr_controller.specs.Running.{IsInOrder}
use Rattle.adr_outside.specs.Traffic.{Traffic}
use Rattle.adr_session.specs.Talk.{Point}
use Rattle.adr_session.specs.Told.{Behind, FindsBehind, IsAt}
use Rattle.adr_session.proofs.serving.serve_one.Given as goal

-- all stand behind so many messages, and a crash so far leaves some of them
abbrev pub invariant-loop-messages : goal.invariant-loop-messages
invariant-loop-messages g l = record {
  up : IsSome l.controller.state;
  in_order : IsInOrder g.K.Keeper l.controller;
  at :
      (t : Traffic) (p : Point) → IsAt g.K.Keeper t p l.fn.controller (g.N.Net.traffic l.fn.net) (g.C.Clock.moments l.fn.clock)
      → Behind l.messages p (λ q. IsAt g.K.Keeper t q l.controller (g.N.Net.traffic l.net) (g.C.Clock.moments l.clock));
  crash :
      (t : Traffic) (p : Point) → IsAt g.K.Keeper t p l.fn.controller (g.N.Net.traffic l.fn.net) (g.C.Clock.moments l.fn.clock)
      → IfSome (g.K.Keeper.told l.fn.controller.keeper) (λ _. LeavesOnly g.K.Keeper.moment g.K.Keeper.left_since l.fn.controller.keeper l.controller.keeper (FindsBehind p));
  told : IsSome (g.K.Keeper.told l.fn.controller.keeper) → IsSome (g.K.Keeper.told l.controller.keeper);
  disk : g.K.Keeper.faults l.fn.controller.keeper ≤ g.K.Keeper.faults l.controller.keeper;
  clock : g.C.Clock.faults l.clock ≡ g.C.Clock.faults l.fn.clock;
  lines : g.N.Net.lines l.net ≡ g.N.Net.lines l.fn.net;
  doors : g.N.Net.doors l.net ≡ g.N.Net.doors l.fn.net;
}
