-- What the commands over a network do, and the status of each.
use Rattle.std.specs.Prelude.{◌≡◌, ℕ, List}
use Rattle.adr_io.specs.declared.Source.{Ghosts as SourceGhosts}
use Rattle.adr_io.specs.declared.Sink.{Ghosts as SinkGhosts}
use Rattle.adr_disk.specs.declared.disk.Disk.{Ghosts as DiskGhosts}
use Rattle.adr_outside.specs.declared.net.Net.{Ghosts as NetGhosts}
use Rattle.adr_outside.specs.declared.clock.Clock.{Ghosts as ClockGhosts}
use Rattle.adr_node.specs.Seen.{of_disk}
use Rattle.adr_online.specs.Serves.{Serves, Hands as AtServer}
use Rattle.adr_online.specs.declared.ended.Online.{Online}
use Rattle.adr_online.specs.declared.ended.Online.TheVariants as online
use Rattle.adr_online.specs.Pulls.{Pulls, Hands as AtPull}
use Rattle.adr_online.specs.Sends.{Sends}
use Rattle.adr_online.specs.declared.ended.Pulled.{Pulled}
use Rattle.adr_online.specs.declared.ended.Pulled.TheVariants as pulls
use Rattle.adr_online.specs.declared.ended.Sent.{Sent}
use Rattle.adr_online.specs.declared.ended.Sent.TheVariants as sends

-- ---- the status

abbrev pub status_of_server : Online → ℕ
status_of_server online.Done = 0
status_of_server online.WriteFault = 5
status_of_server online.DiskFault = 6
status_of_server online.LinkFault = 7
status_of_server online.NoMemory = 8
status_of_server (online.Damaged place) = 10
status_of_server online.ClockFault = 12

abbrev pub status_of_pull : Pulled → ℕ
status_of_pull pulls.Done = 0
status_of_pull pulls.WriteFault = 5
status_of_pull pulls.DiskFault = 6
status_of_pull pulls.LinkFault = 7
status_of_pull pulls.NoMemory = 8
status_of_pull pulls.Refused = 9
status_of_pull (pulls.Damaged place) = 10
status_of_pull pulls.MoreWaiting = 11
status_of_pull pulls.BadPeer = 14

abbrev pub status_of_send : Sent → ℕ
status_of_send sends.Done = 0
status_of_send sends.BadText = 3
status_of_send sends.ReadFault = 4
status_of_send sends.WriteFault = 5
status_of_send sends.LinkFault = 7
status_of_send sends.NoMemory = 8
status_of_send sends.Refused = 9
status_of_send sends.BadPeer = 14

-- ---- what they do

-- so many connections are served from the controller on a disk
abbrev pub ServesSo : {D N C K : Type 0} → DiskGhosts D → NetGhosts N → ClockGhosts C → SinkGhosts K → ℕ → AtServer D N C K → AtServer D N C K → ℕ → Type 0
ServesSo d n c k count before after status =
    (how : Online) × (status ≡ status_of_server how) × Serves (of_disk d) n c k count before after how

-- the controller of this name takes a cycle
abbrev pub PullsSo : {D N K : Type 0} → DiskGhosts D → NetGhosts N → SinkGhosts K → List ℕ → AtPull D N K → AtPull D N K → ℕ → Type 0
PullsSo d n k name before after status = (how : Pulled) × (status ≡ status_of_pull how) × Pulls (of_disk d) n k name before after how

-- the lines that are read are sent
abbrev pub SendsSo : {S N K : Type 0} → SourceGhosts S → NetGhosts N → SinkGhosts K → S → S → N → N → K → K → ℕ → Type 0
SendsSo s n k source source_after net net_after sink sink_after status =
    (how : Sent) × (status ≡ status_of_send how) × Sends s n k source source_after net net_after sink sink_after how
