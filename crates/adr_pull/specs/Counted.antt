-- What is counted of calls outside: each fault comes where its count rose, and no count falls. A call of a connection failed
-- just where that is the fault.
use Rattle.std.specs.Prelude.{◌≡◌, ◌↔◌, ◌<◌, ◌≤◌, Result, IsErrOf, IsSome}
use Rattle.adr_io.specs.declared.Sink.{Ghosts as SinkGhosts}
use Rattle.adr_journal.specs.declared.keeper.Keeper.{Ghosts}
use Rattle.adr_controller.specs.Running.{Running}
use Rattle.adr_outside.specs.declared.net.Net.{Ghosts as NetGhosts}
use Rattle.adr_pull.specs.declared.fault.PullFault.{PullFault}
use Rattle.adr_pull.specs.declared.fault.PullFault.TheVariants as faults
use Rattle.adr_pull.specs.declared.fault.SendFault.{SendFault}
use Rattle.adr_pull.specs.declared.fault.SendFault.TheVariants as sends

-- of a disk alone, which goes on telling what a start finds
pub record CountsDisk {K V : Type 0} (k : Ghosts K) (old new : Running K) (result : Result V PullFault) : Type 0 where
  pub told : IsSome (k.told new.keeper) ↔ IsSome (k.told old.keeper)
  pub disk : IsErrOf result faults.Disk → k.faults old.keeper < k.faults new.keeper
  pub disk_never_falls : k.faults old.keeper ≤ k.faults new.keeper
  pub not_link : IsErrOf result faults.Link → ⊥
  pub not_write : IsErrOf result faults.Write → ⊥

-- of a connection alone
pub record CountsLink {N V : Type 0} (n : NetGhosts N) (old new : N) (result : Result V PullFault) : Type 0 where
  pub never_falls : n.lines old ≤ n.lines new
  pub link : IsErrOf result faults.Link → n.lines old < n.lines new
  pub no_other : (IsErrOf result faults.Link → ⊥) → n.lines new ≡ n.lines old
  pub not_disk : IsErrOf result faults.Disk → ⊥
  pub not_write : IsErrOf result faults.Write → ⊥
  pub doors : n.doors new ≡ n.doors old

-- of all that a cycle has to do with
pub record CountsAll {K N S V : Type 0} (k : Ghosts K) (n : NetGhosts N) (s : SinkGhosts S) (old new : Running K) (net net_after : N)
    (sink sink_after : S) (result : Result V PullFault) : Type 0 where
  pub told : IsSome (k.told new.keeper) ↔ IsSome (k.told old.keeper)
  pub disk : IsErrOf result faults.Disk → k.faults old.keeper < k.faults new.keeper
  pub disk_never_falls : k.faults old.keeper ≤ k.faults new.keeper
  pub link : IsErrOf result faults.Link → n.lines net < n.lines net_after
  pub no_other : (IsErrOf result faults.Link → ⊥) → n.lines net_after ≡ n.lines net
  pub lines_never_fall : n.lines net ≤ n.lines net_after
  pub write : IsErrOf result faults.Write → s.faults sink < s.faults sink_after
  pub sink_never_falls : s.faults sink ≤ s.faults sink_after
  pub doors : n.doors net_after ≡ n.doors net

-- of a client's connection, and of where it writes the answers
pub record CountsSent {N S V : Type 0} (n : NetGhosts N) (s : SinkGhosts S) (net net_after : N) (sink sink_after : S)
    (result : Result V SendFault) : Type 0 where
  pub link : IsErrOf result sends.Link → n.lines net < n.lines net_after
  pub no_other : (IsErrOf result sends.Link → ⊥) → n.lines net_after ≡ n.lines net
  pub lines_never_fall : n.lines net ≤ n.lines net_after
  pub write : IsErrOf result sends.Write → s.faults sink < s.faults sink_after
  pub sink_never_falls : s.faults sink ≤ s.faults sink_after
  pub doors : n.doors net_after ≡ n.doors net
