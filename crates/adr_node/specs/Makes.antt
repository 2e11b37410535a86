-- What a command does that makes a controller on an empty disk.
use Rattle.std.specs.Prelude.{◌≡◌, ◌<◌, ◌≤◌, ◌⊎◌, ◌↔◌, ℕ, List, [], ◌∷◌, true, false, take, drop, Some, None, Option, Result, Ok, Err, IfErr, IfSome, IsErrOf, IsSome, OnOk}
use Rattle.adr_io.specs.Told.{Adds, AddsFront}
use Rattle.adr_io.specs.declared.Sink.{Ghosts as SinkGhosts}
use Rattle.adr_disk.specs.Disk.{Among, Keeps, LeavesOnly}
use Rattle.adr_disk.specs.declared.disk.Disk.{Ghosts as DiskGhosts}
use Rattle.adr_outside.specs.Given.{Takes}
use Rattle.adr_wire.specs.declared.refusal.DecodeRefusal.{DecodeRefusal}
use Rattle.adr_wire.specs.declared.refusal.DecodeRefusal.TheVariants.{Malformed, WrongVersion}
use Rattle.adr_call.specs.declared.outcome.Outcome.TheVariants as outcomes
use Rattle.adr_call.specs.declared.refusal.AdoptRefusal.{AdoptRefusal}
use Rattle.adr_call.specs.declared.refusal.Table.TheVariants.{Log as LogTable}
use Rattle.adr_model.specs.Collect.{adopt}
use Rattle.adr_model.specs.Lengths.{area_fits, length_limit, log_limit, new_log}
use Rattle.adr_model.specs.Refused.{adopt_refused, full}
use Rattle.adr_model.specs.Store.{State, Store, empty_state}
use Rattle.adr_model.specs.Update.{Identifier}
use Rattle.adr_law_journal.specs.Areas.{Started}
use Rattle.adr_journal.specs.Ended.{IsNewOrNone}
use Rattle.adr_image.specs.Stored.{decoded}
use Rattle.adr_answers.specs.Line.{line}
use Rattle.adr_node.specs.Lines.{malformed_line, not_empty_line, refusal_line, version_line}
use Rattle.adr_node.specs.Seen.{FindsAsBefore, Seen, StandsNew, Untouched, of_disk}
use Rattle.adr_node.specs.declared.ended.Refusal.{Refusal}
use Rattle.adr_node.specs.declared.ended.Refusal.TheVariants.{NotEmpty, Image, Adoption, Full}
use Rattle.adr_node.specs.declared.ended.Creation.{Creation}
use Rattle.adr_node.specs.declared.ended.Creation.TheVariants as installs
use Rattle.adr_node.specs.declared.making.Unmade.{Unmade}
use Rattle.adr_node.specs.declared.making.Unmade.TheVariants as unmade

-- ---- what is written

-- the answer of a schedule to a line that made a controller
abbrev pub made_line : List ℕ → List ℕ → List ℕ
made_line verb name = line (record { verb = verb; name = name; outcome = outcomes.Ok })

abbrev pub image_line : DecodeRefusal → List ℕ
image_line (Malformed place) = malformed_line place
image_line (WrongVersion found) = version_line found

abbrev pub refused_line : Refusal → List ℕ
refused_line NotEmpty = not_empty_line
refused_line (Image why) = image_line why
refused_line (Adoption why) = refusal_line (adopt_refused why)
refused_line Full = refusal_line (full LogTable log_limit)

-- the state of the new controller, or why there is none
abbrev pub Verdict : Type 0
Verdict = Result State Refusal

abbrev pub verdict_line : List ℕ → List ℕ → Verdict → List ℕ
verdict_line verb name (Ok s) = made_line verb name
verdict_line verb name (Err why) = refused_line why

-- ---- how a command ends

abbrev pub ends_so : Verdict → Creation
ends_so (Ok s) = installs.Done
ends_so (Err why) = installs.Refused why

-- the verdict is written
abbrev pub IsWritten : Creation → Type 0
IsWritten installs.Done = Unit {0}
IsWritten (installs.Refused why) = Unit {0}
IsWritten installs.ReadFault = ⊥
IsWritten installs.WriteFault = ⊥
IsWritten installs.DiskFault = ⊥
IsWritten installs.FreshFault = ⊥
IsWritten installs.NoMemory = ⊥

-- ---- where a state comes from

-- both identifiers were drawn, the controller's before the database's
abbrev pub DrawsBoth : Option (List Identifier) → Option (List Identifier) → Identifier → Identifier → Type 0
DrawsBoth before after dsa inv =
    IfSome before (λ ids. (rest : List Identifier) × (ids ≡ dsa ∷ inv ∷ rest) × (after ≡ Some rest))

-- or the controller's is given
abbrev pub Draws : Option Identifier → Option (List Identifier) → Option (List Identifier) → Identifier → Identifier → Type 0
Draws None before after dsa inv = DrawsBoth before after dsa inv
Draws (Some given) before after dsa inv = (dsa ≡ given) × IfSome before (λ ids. Takes inv ids after)

-- a new, empty controller under fresh identifiers
abbrev pub IsNew : Option (List Identifier) → Option (List Identifier) → Verdict → Type 0
IsNew before after (Ok s) = (dsa : Identifier) × (inv : Identifier) × DrawsBoth before after dsa inv × (s ≡ empty_state dsa inv)
IsNew before after (Err why) = ⊥

-- so many bytes of a source are read at most, one more than an image of a log may have
abbrev pub image_limit : ℕ
image_limit = length_limit

-- what is read of a text says this of an image, where the text is told
abbrev pub Says : Option (List ℕ) → Result Store DecodeRefusal → Type 0
Says text said = IfSome text (λ bytes. decoded (take image_limit bytes) ≡ said)

-- what comes of an image under identifiers that are drawn, but for the controller's where that is given
abbrev pub AdoptsImage : Option Identifier → Store → Option (List Identifier) → Option (List Identifier) → Result State AdoptRefusal
    → Type 0
AdoptsImage given image before after becomes =
    (dsa : Identifier) × (inv : Identifier) × (Draws given before after dsa inv × (adopt image dsa inv ≡ becomes))

-- a controller of the image that a text says; or why there is none
abbrev pub Adopts : Option Identifier → Option (List ℕ) → Option (List Identifier) → Option (List Identifier) → Verdict → Type 0
Adopts given text before after (Ok s) = (image : Store) × Says text (Ok image) × AdoptsImage given image before after (Ok s)
Adopts given text before after (Err (Adoption why)) =
    (image : Store) × Says text (Ok image) × AdoptsImage given image before after (Err why)
Adopts given text before after (Err (Image why)) = Says text (Err why) × (after ≡ before)
Adopts given text before after (Err NotEmpty) = ⊥
Adopts given text before after (Err Full) = ⊥

-- ---- how much of a source is read

-- a text was read to its end or the limit, where it is told
abbrev pub IsReadWhole : Option (List ℕ) → Option (List ℕ) → Type 0
IsReadWhole before after = IfSome before (λ text. after ≡ Some (drop image_limit text))

-- or a front of that
abbrev pub IsReadAtMost : Option (List ℕ) → Option (List ℕ) → Type 0
IsReadAtMost before after = IfSome before (λ text. (n : ℕ) × (n ≤ image_limit) × (after ≡ Some (drop n text)))

-- how much was read where a command ends so: nothing if the disk has bytes, the whole if it came beyond the reading; where a write
-- or a call of the disk fails, one or the other
abbrev pub ReadsSo : Option (List ℕ) → Option (List ℕ) → Creation → Type 0
ReadsSo before after installs.Done = IsReadWhole before after
ReadsSo before after (installs.Refused NotEmpty) = after ≡ before
ReadsSo before after (installs.Refused (Image why)) = IsReadWhole before after
ReadsSo before after (installs.Refused (Adoption why)) = IsReadWhole before after
ReadsSo before after (installs.Refused Full) = IsReadWhole before after
ReadsSo before after installs.ReadFault = Unit {0}
ReadsSo before after installs.WriteFault = IsReadWhole before after ⊎ (after ≡ before)
ReadsSo before after installs.DiskFault = IsReadWhole before after ⊎ (after ≡ before)
ReadsSo before after installs.FreshFault = IsReadWhole before after
ReadsSo before after installs.NoMemory = Unit {0}

-- how a command ends by what was made, if its line is written
abbrev pub ended_by : Unmade → Creation
ended_by (unmade.Refused why) = installs.Refused why
ended_by unmade.ReadFault = installs.ReadFault
ended_by unmade.DiskFault = installs.DiskFault
ended_by unmade.FreshFault = installs.FreshFault
ended_by unmade.NoMemory = installs.NoMemory

abbrev pub ended_as : {T : Type 0} → Result T Unmade → Creation
ended_as (Ok _) = installs.Done
ended_as (Err e) = ended_by e

-- ---- what is left

-- nothing stands on the disk, where it tells its bytes
abbrev pub HasNone : {D : Type 0} → DiskGhosts D → D → Type 0
HasNone d disk = IfSome (d.content disk) (λ bytes. bytes ≡ [])

-- a disk was looked at: it has no bytes, or it has some, or a call of it failed
pub record SeesNone {D T : Type 0} (d : DiskGhosts D) (old new : D) (result : Result T Unmade) : Type 0 where
  pub empty : OnOk result (HasNone d old)
  pub not_empty : IsErrOf result (unmade.Refused NotEmpty) → IfSome (d.content old) (λ bytes. bytes ≡ [] → ⊥)
  pub refused : IfErr result (λ e. (e ≡ unmade.Refused NotEmpty) ⊎ ((e ≡ unmade.DiskFault) ⊎ (e ≡ unmade.NoMemory)))
  pub fault : IsErrOf result unmade.DiskFault → d.faults old < d.faults new
  pub later : d.faults old ≤ d.faults new
  pub keeps : Keeps d.content d.may_leave d.moment d.left_since old new

-- why a verdict is one: a disk that has bytes comes first, and a log that would be too long last
abbrev pub IsVerdict : {D : Type 0} → DiskGhosts D → (Verdict → Type 0) → D → Verdict → Type 0
IsVerdict d comes old (Ok s) = HasNone d old × comes (Ok s) × (area_fits (new_log s) s.store ≡ true)
IsVerdict d comes old (Err NotEmpty) = IfSome (d.content old) (λ bytes. bytes ≡ [] → ⊥)
IsVerdict d comes old (Err Full) = HasNone d old × ((s : State) × comes (Ok s) × (area_fits (new_log s) s.store ≡ false))
IsVerdict d comes old (Err (Image why)) = HasNone d old × comes (Err (Image why))
IsVerdict d comes old (Err (Adoption why)) = HasNone d old × comes (Err (Adoption why))

-- That the disk has nothing was seen before all else. So where it has bytes, or the verdict says so, nothing was taken.
abbrev pub SeesFirst : {D : Type 0} → DiskGhosts D → Type 0 → D → Option Verdict → Type 0
SeesFirst d untaken old verdict = (HasNone d old × (verdict ≡ Some (Err NotEmpty) → ⊥)) ⊎ untaken

-- what was written of a verdict, if there is one, and how that ended
abbrev pub TellsVerdict : {K : Type 0} → SinkGhosts K → List ℕ → List ℕ → Option Verdict → K → K → Creation → Type 0
TellsVerdict k verb name None before after how = (after ≡ before) × (IsWritten how → ⊥) × (how ≡ installs.WriteFault → ⊥)
TellsVerdict k verb name (Some v) before after how =
    (IsWritten how → (how ≡ ends_so v) × Adds (k.written before) (k.written after) (verdict_line verb name v))
    × AddsFront (k.written before) (k.written after) (verdict_line verb name v)
    × (how ≡ installs.WriteFault → k.faults before < k.faults after)
    × ((how ≡ installs.ReadFault) ⊎ ((how ≡ installs.FreshFault) ⊎ (how ≡ installs.DiskFault)) → ⊥)

-- what a crash may leave: what it might have left before, or no log or that of a state which was begun to be written
abbrev pub BeforeOrBegun : {D : Type 0} → Seen D → D → Option State → Started State → Type 0
BeforeOrBegun d old None f = d.may_leave old f
BeforeOrBegun d old (Some s) f = d.may_leave old f ⊎ IsNewOrNone s f

-- what is left of a disk where this state was begun to be written, if one was: behind a crash at any moment, and from then on
pub record Begins {D : Type 0} (d : Seen D) (begun : Option State) (old new : D) : Type 0 where
  pub later : d.faults old ≤ d.faults new
  pub still_told : IsSome (d.told new) ↔ IsSome (d.told old)
  pub any_moment : IfSome (d.told old) (λ _. LeavesOnly d.moment d.left_since old new (BeforeOrBegun d old begun))
  pub left : IfSome (d.told old) (λ _. Among (BeforeOrBegun d old begun) (d.may_leave new))

-- What a refusal leaves: the disk as it was. A log that would be too long is refused behind a sync, so that a crash may leave less
-- than before.
abbrev pub LeavesRefused : {D : Type 0} → DiskGhosts D → D → D → Refusal → Type 0
LeavesRefused d old new NotEmpty = Untouched d old new
LeavesRefused d old new (Image why) = Untouched d old new
LeavesRefused d old new (Adoption why) = Untouched d old new
LeavesRefused d old new Full = FindsAsBefore (of_disk d) old new

-- what a verdict leaves: a start finds the new state, also behind a crash; or there is a refusal
abbrev pub LeavesVerdict : {D : Type 0} → DiskGhosts D → D → D → Option Verdict → Type 0
LeavesVerdict d old new None = Unit {0}
LeavesVerdict d old new (Some (Ok s)) = StandsNew (of_disk d) s new
LeavesVerdict d old new (Some (Err why)) = LeavesRefused d old new why

-- the verdict of what was made on a disk: of this state, if it is there
abbrev pub verdict_of : {T : Type 0} → State → Result T Unmade → Option Verdict
verdict_of s (Ok _) = Some (Ok s)
verdict_of s (Err (unmade.Refused why)) = Some (Err why)
verdict_of s (Err unmade.ReadFault) = None
verdict_of s (Err unmade.DiskFault) = None
verdict_of s (Err unmade.FreshFault) = None
verdict_of s (Err unmade.NoMemory) = None

-- a controller was made on a disk, or not, before any line is written
pub record MadeOn {D T : Type 0} (d : DiskGhosts D) (comes : Verdict → Type 0) (untaken : Type 0) (old new : D) (made : Result T Unmade)
    : Type 0 where
  pub state : State
  pub is_so : IfSome (verdict_of state made) (IsVerdict d comes old)
  pub sees_first : SeesFirst d untaken old (verdict_of state made)
  pub leaves : LeavesVerdict d old new (verdict_of state made)
  pub disk_fault : made ≡ Err unmade.DiskFault → d.faults old < d.faults new
  pub stays : verdict_of state made ≡ None → (made ≡ Err unmade.DiskFault → ⊥) → FindsAsBefore (of_disk d) old new
  pub begun : Option State
  pub comes_so : IfSome begun (λ s. comes (Ok s))
  pub on_empty : IfSome begun (λ _. HasNone d old)
  pub begins : Begins (of_disk d) begun old new
  pub unbegun : begun ≡ None → Untouched d old new

-- A controller is made on an empty disk, of a state that comes so, and its line is written. Untaken says that no image was read and
-- no identifier drawn.
pub record Makes {D K : Type 0} (d : DiskGhosts D) (k : SinkGhosts K) (comes : Verdict → Type 0) (untaken : Type 0) (verb name : List ℕ)
    (old new : D) (before after : K) (how : Creation) : Type 0 where
  -- the state, or why there is none, if the command came so far; and then all its line is written, or a front of it
  pub verdict : Option Verdict
  pub is_so : IfSome verdict (IsVerdict d comes old)
  pub sees_first : SeesFirst d untaken old verdict
  pub tells : TellsVerdict k verb name verdict before after how
  pub leaves : LeavesVerdict d old new verdict
  pub disk_fault : how ≡ installs.DiskFault → d.faults old < d.faults new
  -- where it didn't come so far, the bytes stay, a start finds what it found, and behind a crash nothing that it might not have
  -- found before, but for such a fault
  pub stays : verdict ≡ None → (how ≡ installs.DiskFault → ⊥) → FindsAsBefore (of_disk d) old new
  -- the state that was begun to be written, if one was, and only over nothing; else nothing has changed of the disk
  pub begun : Option State
  pub comes_so : IfSome begun (λ s. comes (Ok s))
  pub on_empty : IfSome begun (λ _. HasNone d old)
  pub begins : Begins (of_disk d) begun old new
  pub unbegun : begun ≡ None → Untouched d old new
