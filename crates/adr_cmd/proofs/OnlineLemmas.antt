-- A command over a network, where memory was wanting before anything was done.
use Rattle.std.proofs.Common.{inl, inr, refl, ℕ, List, arith}
use Rattle.std.specs.Prelude.{◌+◌}
use Rattle.adr_io.specs.declared.Source.{Ghosts as SourceGhosts}
use Rattle.adr_io.specs.declared.Sink.{Ghosts as SinkGhosts}
use Rattle.adr_disk.specs.declared.disk.Disk.{Ghosts as DiskGhosts}
use Rattle.adr_outside.specs.declared.net.Net.{Ghosts as NetGhosts}
use Rattle.adr_outside.specs.declared.clock.Clock.{Ghosts as ClockGhosts}
use Rattle.adr_node.specs.Seen.{of_disk}
use Rattle.adr_node.specs.declared.ended.Unbegun.TheVariants as unbegun
use Rattle.adr_schedule.specs.Limits.{text_limit}
use Rattle.adr_online.specs.Serves.{Hands as AtServer}
use Rattle.adr_online.specs.declared.ended.Online.TheVariants as online
use Rattle.adr_online.proofs.Begun.{none_served}
use Rattle.adr_online.specs.Pulls.{Hands as AtPull}
use Rattle.adr_online.specs.declared.ended.Pulled.TheVariants as pulls
use Rattle.adr_online.specs.declared.ended.Sent.TheVariants as sends
use Rattle.adr_online.proofs.Started.{none_pulled}
use Rattle.adr_cmd.specs.Online.{PullsSo, SendsSo, ServesSo}
use Rattle.adr_cmd.proofs.DiskLemmas.{OnlyNow, none_begun, none_read}

pub nothing_served : {D N C K : Type 0} (d : DiskGhosts D) (n : NetGhosts N) (c : ClockGhosts C) (k : SinkGhosts K) (only_now : OnlyNow d)
    (count : ℕ) (at : AtServer D N C K) → ServesSo d n c k count at at 8
nothing_served d n c k only_now count at =
    (online.NoMemory, refl, none_served (of_disk d) n c k count at at unbegun.NoMemory (none_begun d only_now k at.disk at.sink) refl refl)

pub nothing_pulled : {D N K : Type 0} (d : DiskGhosts D) (n : NetGhosts N) (k : SinkGhosts K) (only_now : OnlyNow d)
    (name : List ℕ) (at : AtPull D N K) → PullsSo d n k name at at 8
nothing_pulled d n k only_now name at =
    (pulls.NoMemory, refl, none_pulled (of_disk d) n k name at at unbegun.NoMemory (none_begun d only_now k at.disk at.sink) refl)

pub nothing_sent : {S N K : Type 0} (s : SourceGhosts S) (n : NetGhosts N) (k : SinkGhosts K) (source : S) (net : N) (sink : K) → SendsSo s n k source source net net sink sink 8
nothing_sent s n k source net sink = (
  sends.NoMemory,
  refl,
  record {
    does = inl (inr refl, refl, refl);
    at_most = none_read (text_limit + 1) (s.left source);
    read_fault = λ e. absurd (cc e);
    write_fault = λ e. absurd (cc e);
    link_fault = λ e. absurd (cc e);
    source_later = omega arith;
    sink_later = omega arith;
    doors_later = omega arith;
    lines_later = omega arith;
    doors_only = λ not. refl;
    lines_only = λ not. refl;
  },
)
