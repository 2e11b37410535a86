-- What the program does for its words, and what its status says of it.
use Rattle.std.specs.Prelude.{◌≡◌, ◌⊎◌, ◌<◌, ◌≤◌, ◌+◌, ℕ, List, [], Option, Some, None, IfSome, drop}
use Rattle.adr_io.specs.Told.{Adds, AddsFront}
use Rattle.adr_io.specs.declared.Source.{Ghosts as SourceGhosts}
use Rattle.adr_io.specs.declared.Sink.{Ghosts as SinkGhosts}
use Rattle.adr_disk.specs.declared.disk.Disk.{Ghosts as DiskGhosts}
use Rattle.adr_outside.specs.declared.clock.Clock.{Ghosts as ClockGhosts}
use Rattle.adr_outside.specs.declared.fresh.Fresh.{Ghosts as FreshGhosts}
use Rattle.adr_outside.specs.declared.net.Net.{Ghosts as NetGhosts}
use Rattle.adr_schedule.specs.Limits.{text_limit}
use Rattle.adr_run_replay.specs.Outcome.{Gives, exercised}
use Rattle.adr_run_replay.specs.Shown.{AtEachShow}
use Rattle.adr_words.specs.declared.kinds.Command.{Command}
use Rattle.adr_words.specs.declared.kinds.Command.TheVariants.{Exercise, OnDisk, Pull, Replay, Send, Serve}
use Rattle.adr_cmd.specs.Usage.{usage_line}
use Rattle.adr_cmd.specs.OnDisk.{DoesSo}
use Rattle.adr_cmd.specs.Online.{PullsSo, SendsSo, ServesSo}

-- what the program has at hand
pub record Hands (S K D N C F : Type 0) : Type 0 where
  pub source : S
  pub sink : K
  pub disk : D
  pub net : N
  pub clock : C
  pub fresh : F

-- Wrong words get the usage line, and no other words do.
pub record TellsUsage {S K D N C F : Type 0} (k : SinkGhosts K) (before after : Hands S K D N C F) (status : ℕ) : Type 0 where
  pub statuses : (status ≡ 2) ⊎ ((status ≡ 5) ⊎ (status ≡ 8))
  pub line : status ≡ 2 → Adds (k.written before.sink) (k.written after.sink) usage_line
  pub front : (status ≡ 5) ⊎ (status ≡ 8) → AddsFront (k.written before.sink) (k.written after.sink) usage_line
  pub alone : (after.source ≡ before.source) × (after.disk ≡ before.disk) × (after.net ≡ before.net) × (after.clock ≡ before.clock) × (after.fresh ≡ before.fresh)

-- `replay` reads a text, and writes what it gives. Each text gives one status and one output (`TextsGiveOne`).
pub record Replays {S K D N C F : Type 0} (s : SourceGhosts S) (k : SinkGhosts K) (before after : Hands S K D N C F) (status : ℕ) : Type 0 where
  pub statuses : (status ≡ 0) ⊎ ((status ≡ 3) ⊎ ((status ≡ 4) ⊎ ((status ≡ 5) ⊎ (status ≡ 8))))
  -- with 0 or 3 that is the status and what was written
  pub written :
      (status ≡ 0) ⊎ (status ≡ 3)
      → IfSome (s.left before.source) (λ text. (given : List ℕ) × Gives text status given × Adds (k.written before.sink) (k.written after.sink) given)
  -- and where a schedule asks a controller that is up for its directory, what was written is there the directory of the issued
  -- updates that the controller covers or holds
  pub printed : status ≡ 0 → IfSome (s.left before.source) (λ text. AtEachShow text (Adds (k.written before.sink) (k.written after.sink)))
  -- with a fault it is a front of that
  pub front :
      (status ≡ 5) ⊎ (status ≡ 8)
      → IfSome (s.left before.source) (λ text. (due : ℕ) × (given : List ℕ) × Gives text due given
      × AddsFront (k.written before.sink) (k.written after.sink) given)
  -- of the source no more is read than a text may have, and one byte
  pub read : IfSome (s.left before.source) (λ text. (n : ℕ) × (n ≤ text_limit + 1) × (s.left after.source ≡ Some (drop n text)))
  pub read_whole : (status ≡ 0) ⊎ (status ≡ 3) → IfSome (s.left before.source) (λ text. s.left after.source ≡ Some (drop (text_limit + 1) text))
  pub ended : status ≡ 0 → IfSome (s.left before.source) (λ text. s.left after.source ≡ Some [])
  pub alone : (after.disk ≡ before.disk) × (after.net ≡ before.net) × (after.clock ≡ before.clock) × (after.fresh ≡ before.fresh)

-- `exercise` reads nothing, and writes what the run of the generated schedule comes to.
pub record Exercises {S K D N C F : Type 0} (k : SinkGhosts K) (number : ℕ) (before after : Hands S K D N C F) (status : ℕ) : Type 0 where
  pub statuses : (status ≡ 0) ⊎ ((status ≡ 5) ⊎ (status ≡ 8))
  pub written : status ≡ 0 → Adds (k.written before.sink) (k.written after.sink) (exercised number)
  pub front : (status ≡ 5) ⊎ (status ≡ 8) → AddsFront (k.written before.sink) (k.written after.sink) (exercised number)
  pub alone : (after.source ≡ before.source) × (after.disk ≡ before.disk) × (after.net ≡ before.net) × (after.clock ≡ before.clock) × (after.fresh ≡ before.fresh)

-- What the words ask for is done.
abbrev pub Obeys :
    {S K D N C F : Type 0} → SourceGhosts S → SinkGhosts K → DiskGhosts D → NetGhosts N → ClockGhosts C → FreshGhosts F
    → Option Command → Hands S K D N C F → Hands S K D N C F → ℕ → Type 0
Obeys s k d n c f None before after status = TellsUsage k before after status
Obeys s k d n c f (Some Replay) before after status = Replays s k before after status
Obeys s k d n c f (Some (Exercise number)) before after status = Exercises k number before after status
-- A command over a disk does what it should: what is found there or begun, what is written of it, with which status, and what a
-- start finds afterwards or behind a crash at any moment.
Obeys s k d n c f (Some (OnDisk command)) before after status =
    DoesSo s k d f command
    (record { source = before.source; sink = before.sink; disk = before.disk; fresh = before.fresh })
    (record { source = after.source; sink = after.sink; disk = after.disk; fresh = after.fresh }) status
    × (after.net ≡ before.net) × (after.clock ≡ before.clock)
-- `serve` starts the controller on the disk, and answers what comes in so many connections, one message after the other. What is
-- answered was committed before; what a start finds behind a crash is the controller behind some of the messages.
Obeys s k d n c f (Some (Serve name port count)) before after status =
    ServesSo d n c k count
    (record { disk = before.disk; net = before.net; clock = before.clock; sink = before.sink })
    (record { disk = after.disk; net = after.net; clock = after.clock; sink = after.sink }) status
    × (after.source ≡ before.source) × (after.fresh ≡ before.fresh)
-- `pull` takes a cycle of the node at the port, reply by reply. Each reply whose line was written is kept.
Obeys s k d n c f (Some (Pull name port)) before after status =
    PullsSo d n k name
    (record { disk = before.disk; net = before.net; sink = before.sink })
    (record { disk = after.disk; net = after.net; sink = after.sink }) status
    × (after.source ≡ before.source) × (after.clock ≡ before.clock) × (after.fresh ≡ before.fresh)
-- `send` looks at all lines that are read, sends one after the other, and writes their answers.
Obeys s k d n c f (Some (Send port)) before after status =
    SendsSo s n k before.source after.source before.net after.net before.sink after.sink status
    × (after.disk ≡ before.disk) × (after.clock ≡ before.clock) × (after.fresh ≡ before.fresh)

-- Each fault has its cause, and no count of faults falls.
pub record FaultsAreCaused {S K D N C F : Type 0} (s : SourceGhosts S) (k : SinkGhosts K) (d : DiskGhosts D) (n : NetGhosts N) (c : ClockGhosts C)
    (f : FreshGhosts F) (before after : Hands S K D N C F) (status : ℕ) : Type 0 where
  pub read : status ≡ 4 → s.faults before.source < s.faults after.source
  pub unwritten : status ≡ 4 → after.sink ≡ before.sink
  pub write : status ≡ 5 → k.faults before.sink < k.faults after.sink
  pub disk : status ≡ 6 → d.faults before.disk < d.faults after.disk
  pub link : status ≡ 7 → (n.doors before.net < n.doors after.net) ⊎ (n.lines before.net < n.lines after.net)
  pub clock : status ≡ 12 → c.faults before.clock < c.faults after.clock
  pub draw : status ≡ 13 → f.faults before.fresh < f.faults after.fresh
  pub source_later : s.faults before.source ≤ s.faults after.source
  pub sink_later : k.faults before.sink ≤ k.faults after.sink
  pub disk_later : d.faults before.disk ≤ d.faults after.disk
  pub doors_later : n.doors before.net ≤ n.doors after.net
  pub lines_later : n.lines before.net ≤ n.lines after.net
  pub clock_later : c.faults before.clock ≤ c.faults after.clock
  pub fresh_later : f.faults before.fresh ≤ f.faults after.fresh
