-- What a client's command does: it reads a text, sends its lines, and writes their answers.
use Rattle.std.specs.Prelude.{◌≡◌, ◌⊎◌, ◌<◌, ◌≤◌, ◌+◌, ℕ, List, [], ◌∷◌, true, false, take, drop, Bool, Option, Some, None, IfSome, Result, Ok, Err}
use Rattle.adr_io.specs.Told.{Adds, AddsFront}
use Rattle.adr_io.specs.declared.Sink.{Ghosts as SinkGhosts}
use Rattle.adr_io.specs.declared.Source.{Ghosts as SourceGhosts}
use Rattle.adr_outside.specs.declared.net.Net.{Ghosts as NetGhosts}
use Rattle.adr_schedule.specs.Limits.{text_limit}
use Rattle.adr_schedule.specs.Telling.{fault_line}
use Rattle.adr_schedule.specs.declared.fault.ScheduleFault.{ScheduleFault}
use Rattle.adr_pull.specs.declared.fault.SendFault.{SendFault}
use Rattle.adr_pull.specs.declared.fault.SendFault.TheVariants as faults
use Rattle.adr_pull.specs.Sending.{Place, Sends as SendsLines, spoken}
use Rattle.adr_online.specs.Dialled.{FailsToOpen, HasDone, IsAt, Outside, Post, outside_of}
use Rattle.adr_online.specs.Texts.{fault_in}
use Rattle.adr_online.specs.declared.ended.Sent.{Sent}
use Rattle.adr_online.specs.declared.ended.Sent.TheVariants as sends

-- how the command ends, by how its lines were sent
abbrev pub ended : Result Bool SendFault → Sent
ended (Ok true) = sends.Done
ended (Ok false) = sends.Refused
ended (Err faults.Write) = sends.WriteFault
ended (Err faults.Link) = sends.LinkFault
ended (Err faults.NoMemory) = sends.NoMemory
ended (Err faults.BadPeer) = sends.BadPeer

-- where the client stands when the connection is opened in which this comes
abbrev pub place_at : Post → List ℕ → Place
place_at p came = record { left = came; sent = []; written = p.written; accepted = true }

-- no connection was opened, since a call of a door failed or memory was wanting: nothing was sent or written
abbrev pub IsUnconnected : Post → Sent → Outside → Type 0
IsUnconnected p how o = ((how ≡ sends.LinkFault) × FailsToOpen p o) ⊎ ((how ≡ sends.NoMemory) × IsAt p o)

-- lines were sent over the next connection, behind which these wait; where that ended as its fault, a call failed in it
abbrev pub SendsOver : Post → List (List ℕ) → Place → List (List ℕ) → Sent → Outside → Type 0
SendsOver p rest a lines how o =
    (result : Result Bool SendFault) × (how ≡ ended result) × (result ≡ Err faults.Link → p.faults < o.faults)
    × SendsLines (λ b. HasDone p rest o b.sent b.written) (HasDone p rest o) a lines result

abbrev pub SendsFrom : Post → List (List ℕ) → Sent → Outside → Type 0
SendsFrom p lines how o =
    IsUnconnected p how o
    ⊎ ((came : List ℕ) × (rest : List (List ℕ)) × (p.waiting ≡ came ∷ rest) × SendsOver p rest (place_at p came) lines how o)

-- the fault of a text is written, or a front of that
abbrev pub TellsFault : {K : Type 0} → SinkGhosts K → ScheduleFault → K → K → Sent → Type 0
TellsFault k fault before after sends.BadText = Adds (k.written before) (k.written after) (fault_line fault)
TellsFault k fault before after sends.WriteFault = AddsFront (k.written before) (k.written after) (fault_line fault)
TellsFault k fault before after sends.NoMemory = AddsFront (k.written before) (k.written after) (fault_line fault)
TellsFault k fault before after sends.Done = ⊥
TellsFault k fault before after sends.ReadFault = ⊥
TellsFault k fault before after sends.LinkFault = ⊥
TellsFault k fault before after sends.Refused = ⊥
TellsFault k fault before after sends.BadPeer = ⊥

-- what is done with a text that can't be sent, and with one that can
abbrev pub DoesText : {N K : Type 0} → NetGhosts N → SinkGhosts K → List ℕ → Option ScheduleFault → N → N → K → K → Sent → Type 0
DoesText n k text (Some fault) net net_after sink sink_after how = TellsFault k fault sink sink_after how × (net_after ≡ net)
DoesText n k text None net net_after sink sink_after how =
    ((how ≡ sends.BadText → ⊥) × (how ≡ sends.ReadFault → ⊥))
    × ((p : Post) → IsAt p (outside_of n k net sink) → SendsFrom p (spoken text) how (outside_of n k net_after sink_after))

-- memory was wanting before anything was sent or written
abbrev pub IsUndone : {N K : Type 0} → N → N → K → K → Sent → Type 0
IsUndone net net_after sink sink_after how = (how ≡ sends.NoMemory) × (net_after ≡ net) × (sink_after ≡ sink)

-- A text is sent.
pub record SendsText {N K : Type 0} (n : NetGhosts N) (k : SinkGhosts K) (text : List ℕ) (net net_after : N) (sink sink_after : K)
    (how : Sent) : Type 0 where
  pub does : IsUndone net net_after sink sink_after how ⊎ DoesText n k text (fault_in text) net net_after sink sink_after how
  pub read : how ≡ sends.ReadFault → ⊥
  pub write_fault : how ≡ sends.WriteFault → k.faults sink < k.faults sink_after
  pub link_fault : how ≡ sends.LinkFault → (n.doors net < n.doors net_after) ⊎ (n.lines net < n.lines net_after)
  pub sink_later : k.faults sink ≤ k.faults sink_after
  pub doors_later : n.doors net ≤ n.doors net_after
  pub lines_later : n.lines net ≤ n.lines net_after
  pub doors_only : (how ≡ sends.LinkFault → ⊥) → n.doors net_after ≡ n.doors net
  pub lines_only : (how ≡ sends.LinkFault → ⊥) → n.lines net_after ≡ n.lines net

-- this text was read: what the source has left, where it tells that, but no more than a text may have and one byte
abbrev pub IsRead : {S : Type 0} → SourceGhosts S → List ℕ → S → S → Type 0
IsRead s text source after =
    IfSome (s.left source) (λ left. (text ≡ take (text_limit + 1) left) × (s.left after ≡ Some (drop (text_limit + 1) left)))

-- the text couldn't be read, and nothing was sent or written
abbrev pub Unread : {N K : Type 0} → N → N → K → K → Sent → Type 0
Unread net net_after sink sink_after how =
    ((how ≡ sends.ReadFault) ⊎ (how ≡ sends.NoMemory)) × (net_after ≡ net) × (sink_after ≡ sink)

-- The text that is read is sent.
pub record Sends {S N K : Type 0} (s : SourceGhosts S) (n : NetGhosts N) (k : SinkGhosts K) (source source_after : S) (net net_after : N)
    (sink sink_after : K) (how : Sent) : Type 0 where
  pub does :
      Unread net net_after sink sink_after how
      ⊎ ((text : List ℕ) × IsRead s text source source_after × SendsText n k text net net_after sink sink_after how)
  -- of the source no more is read than a text may have, and one byte
  pub at_most : IfSome (s.left source) (λ left. (m : ℕ) × (m ≤ text_limit + 1) × (s.left source_after ≡ Some (drop m left)))
  -- each fault comes where its count rose, and no count falls
  pub read_fault : how ≡ sends.ReadFault → s.faults source < s.faults source_after
  pub write_fault : how ≡ sends.WriteFault → k.faults sink < k.faults sink_after
  pub link_fault : how ≡ sends.LinkFault → (n.doors net < n.doors net_after) ⊎ (n.lines net < n.lines net_after)
  pub source_later : s.faults source ≤ s.faults source_after
  pub sink_later : k.faults sink ≤ k.faults sink_after
  pub doors_later : n.doors net ≤ n.doors net_after
  pub lines_later : n.lines net ≤ n.lines net_after
  -- and no call of the network failed where it ended otherwise
  pub doors_only : (how ≡ sends.LinkFault → ⊥) → n.doors net_after ≡ n.doors net
  pub lines_only : (how ≡ sends.LinkFault → ⊥) → n.lines net_after ≡ n.lines net
