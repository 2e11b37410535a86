-- What one message of a connection comes to, and what of it is counted.
use Rattle.std.specs.Prelude.{◌≡◌, ◌⊎◌, ◌<◌, ◌≤◌, Option, Some, None, Result, Ok, Err, IfOk, IfSome, IsErrOf, IsSome}
use Rattle.adr_io.specs.declared.Fault.{Fault}
use Rattle.adr_io.specs.declared.Fault.TheVariants as io
use Rattle.adr_disk.specs.Disk.{Among, LeavesOnly}
use Rattle.adr_journal.specs.declared.keeper.Keeper.{Ghosts}
use Rattle.adr_controller.specs.Running.{IsInOrder, Running}
use Rattle.adr_outside.specs.Traffic.{Traffic}
use Rattle.adr_outside.specs.declared.net.Net.{Ghosts as NetGhosts}
use Rattle.adr_outside.specs.declared.clock.Clock.{Ghosts as ClockGhosts}
use Rattle.adr_session.specs.declared.ending.End.{End}
use Rattle.adr_session.specs.declared.ending.End.TheVariants as ended
use Rattle.adr_session.specs.declared.ending.ServeFault.{ServeFault}
use Rattle.adr_session.specs.declared.ending.ServeFault.TheVariants as faults
use Rattle.adr_session.specs.Talk.{Point}
use Rattle.adr_session.specs.Told.{FindsNear, TakesTurn}

-- what a turn comes to whose answer was sent, or wasn't
abbrev pub sent : Result Unit Fault → Result (Option End) ServeFault
sent (Ok _) = Ok None
sent (Err io.Failed) = Ok (Some ended.Fault)
sent (Err io.NoMemory) = Err faults.NoMemory

-- From wherever node, connection and clock stand, as far as they tell it: what the turn comes to, and what a start finds behind a crash
-- at any moment of it, and from then on. Each fault comes where its count rose, and no count falls.
pub record Turns {K N C : Type 0} (k : Ghosts K) (n : NetGhosts N) (c : ClockGhosts C) (at : Traffic → Point → Type 0)
    (old new : Running K) (net net_after : N) (clock_before clock_after : C) (result : Result (Option End) ServeFault) : Type 0 where
  pub up : IfOk result (λ _. IsSome new.state)
  pub in_order : IsInOrder k new
  pub turn : (t : Traffic) (p : Point) → at t p → TakesTurn k t p result new (n.traffic net_after) (c.moments clock_after)
  pub any_moment :
      (t : Traffic) (p : Point) → at t p
      → IfSome (k.told old.keeper) (λ _. LeavesOnly k.moment k.left_since old.keeper new.keeper (FindsNear p))
  pub left : (t : Traffic) (p : Point) → at t p → IfSome (k.told old.keeper) (λ _. Among (FindsNear p) (k.may_leave new.keeper))
  pub told : IsSome (k.told old.keeper) → IsSome (k.told new.keeper)
  pub disk : IsErrOf result faults.Disk → k.faults old.keeper < k.faults new.keeper
  pub disk_never_falls : k.faults old.keeper ≤ k.faults new.keeper
  pub clock : IsErrOf result faults.Clock → c.faults clock_before < c.faults clock_after
  pub clock_never_falls : c.faults clock_before ≤ c.faults clock_after
  -- a fault of the clock ends it
  pub no_clock_fault : IsErrOf result faults.Clock ⊎ (c.faults clock_after ≡ c.faults clock_before)
  pub fault : result ≡ Ok (Some ended.Fault) → n.lines net < n.lines net_after
  pub no_fault : (result ≡ Ok (Some ended.Fault)) ⊎ (n.lines net_after ≡ n.lines net)
  pub doors : n.doors net_after ≡ n.doors net
