-- What a disk in memory holds, what a crash may leave of it, and what its calls, its plan and its crashes do.
use Rattle.std.specs.Prelude.{◌≡◌, ◌==◌, ℕ, ◌+◌, ◌-◌, ◌/◌, ◌^◌, ◌⊎◌, Bool, true, if◌then◌else◌, min, List, [], ◌∷◌, ◌++◌, length, take, map, replicate, Option, Some, None, IsSomeAnd}
use Rattle.adr_io.specs.declared.Fault.{Fault}
use Rattle.adr_io.specs.declared.Fault.TheVariants.{Failed, NoMemory}
use Rattle.adr_disk.specs.Disk.{put, Torn as TornBy, Call, Writes, Syncs, Looks}
use Rattle.adr_disk.specs.declared.memory.Crash.{Crash}
use Rattle.adr_disk.specs.declared.memory.Crash.TheVariants.{Kept, Lost, Torn}
use Rattle.adr_disk.specs.declared.memory.Mishap.{Mishap}
use Rattle.adr_disk.specs.declared.memory.Mishap.TheVariants.{Fails, Stops}
use Rattle.adr_disk.specs.declared.memory.Plan.{Plan}

-- bytes written at a place
pub record Write : Type 0 where
  pub at : ℕ
  pub bytes : List ℕ

-- the bytes that the last sync or crash left, and the writes since, in order
pub record Surface : Type 0 where
  pub synced : List ℕ
  pub written : List Write

-- A surface, those that it was before, in order, and how many writes and bytes memory is sure to suffice for.
pub record Held : Type 0 where
  pub surface : Surface
  pub past : List Surface
  pub room_calls : ℕ
  pub room_bytes : ℕ

-- a disk in memory
pub record DiskState : Type 0 where
  pub held : Held
  pub plan : Option Plan
  pub stopped : Bool
  pub faults : ℕ

-- bytes after these writes
abbrev pub over : List ℕ → List Write → List ℕ
over bytes [] = bytes
over bytes (w ∷ ws) = over (put bytes w.at w.bytes) ws

-- the bytes that a read gives
abbrev pub read_of : Surface → List ℕ
read_of s = over s.synced s.written

-- what a crash may leave of synced bytes after these writes
abbrev pub MayLeave : List ℕ → List Write → List ℕ → Type 0
MayLeave synced [] bytes = bytes ≡ synced
MayLeave synced (w ∷ ws) bytes = (torn : List ℕ) × TornBy w.at (length w.bytes) synced torn × MayLeave torn ws bytes

abbrev pub IsImage : Surface → List ℕ → Type 0
IsImage s bytes = MayLeave s.synced s.written bytes

-- one of these surfaces has this image
abbrev pub IsImageOfOne : List Surface → List ℕ → Type 0
IsImageOfOne [] bytes = ⊥
IsImageOfOne (s ∷ ss) bytes = IsImage s bytes ⊎ IsImageOfOne ss bytes

-- the first half, rounded down, and 0xC3 in place of the rest
abbrev pub torn_half : List ℕ → List ℕ
torn_half bytes = take (length bytes / 2) bytes ++ replicate (length bytes - length bytes / 2) 0xC3

abbrev pub torn_write : Write → Write
torn_write w = record { at = w.at; bytes = torn_half w.bytes }

-- what a crash leaves
abbrev pub left_by : Crash → Surface → List ℕ
left_by Kept s = read_of s
left_by Lost s = s.synced
left_by Torn s = over s.synced (map torn_write s.written)

abbrev pub all_synced : List ℕ → Surface
all_synced bytes = record { synced = bytes; written = [] }

abbrev pub with_write : Surface → Write → Surface
with_write s w = record { synced = s.synced; written = s.written ++ w ∷ [] }

abbrev pub after_write : Write → Held → Held
after_write w h = record h { surface = with_write h.surface w; past = h.past ++ h.surface ∷ [] }

-- after a sync, which keeps all unsynced writes, or after a crash. Where there are none, nothing happens.
abbrev pub after_end : Crash → Held → Held
after_end how h = if length h.surface.written == 0 then h else record h { surface = all_synced (left_by how h.surface); past = h.past ++ h.surface ∷ [] }

-- the same but for the room
pub record SameBytes (h new : Held) : Type 0 where
  pub surface : new.surface ≡ h.surface
  pub past : new.past ≡ h.past

pub record SameState (d new : DiskState) : Type 0 where
  pub held : SameBytes d.held new.held
  pub plan : new.plan ≡ d.plan
  pub stopped : new.stopped ≡ d.stopped
  pub faults : new.faults ≡ d.faults

-- what a plan has for a call
abbrev pub planned : Option Plan → Call → Option Mishap
planned plan Looks = None
planned None call = None
planned (Some plan) call = if plan.calls == 0 then Some plan.mishap else None

-- what becomes of a call: nothing but what it is for, or a mishap
abbrev pub meets : DiskState → Call → Option Mishap
meets d call = if d.stopped then Some Fails else planned d.plan call

-- the plan after a call that passed
abbrev pub one_less : Option Plan → Option Plan
one_less None = None
one_less (Some plan) = Some (record plan { calls = plan.calls - 1 })

-- after a call that passed
abbrev pub passed : Call → DiskState → DiskState
passed (Writes at bytes) d = record d { held = after_write (record { at = at; bytes = bytes }) d.held; plan = one_less d.plan }
passed Syncs d = record d { held = after_end Kept d.held; plan = one_less d.plan }
passed Looks d = d

-- what a crash within a call ends
abbrev pub begun : Call → Held → Held
begun (Writes at bytes) h = after_write (record { at = at; bytes = bytes }) h
begun Syncs h = h
begun Looks h = h

-- after a crash now, which drops the plan
abbrev pub crashed : Crash → DiskState → DiskState
crashed how d = record d { held = after_end how d.held; plan = None; stopped = true }

-- after a call that met a mishap. While it is stopped, a plan stays.
abbrev pub failed : Mishap → Call → DiskState → DiskState
failed Fails call d = record d { plan = if d.stopped then d.plan else None; faults = d.faults + 1 }
failed (Stops how) call d = record (crashed how (record d { held = begun call d.held })) { faults = d.faults + 1 }

-- what a call does: it passes, or fails as planned, or memory is wanting and nothing changes
abbrev pub Does : DiskState → Call → Option Fault → DiskState → Type 0
Does old call None new = (meets old call ≡ None) × SameState (passed call old) new
Does old call (Some Failed) new = IsSomeAnd (meets old call) (λ mishap. SameState (failed mishap call old) new)
Does old call (Some NoMemory) new = SameState old new

-- how many calls are sure to find memory, and to find their fault counted
abbrev pub spare_calls_of : DiskState → ℕ
spare_calls_of d = min d.held.room_calls (2 ^ 64 - 1 - d.faults)
