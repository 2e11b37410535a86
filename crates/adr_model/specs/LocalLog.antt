-- The local log of an incarnation: the changes that became safe, the rows that stood at each USN, and what a mark says of them.
use Rattle.std.specs.Prelude.{◌≡◌, ◌⊎◌, ◌≤◌, ◌<◌, ℕ, List, [], ◌∷◌, Bool, true, false, nat_le, if◌then◌else◌}
use Rattle.adr_values.specs.declared.mark.Mark.{Mark}
use Rattle.adr_model.specs.Member.{Member, Each}
use Rattle.adr_model.specs.Update.{Update, unit_of}
use Rattle.adr_model.specs.Reflects.{Knowledge, Reflects}
use Rattle.adr_model.specs.Store.{Held}
use Rattle.adr_model.specs.Change.{Change, held_of, rows_after}

-- what an incarnation began with, and its changes, the newest first
pub record LocalLog : Type 0 where
  pub start_usn : ℕ
  pub start_rows : List Held
  pub changes : List Change

-- the log of an incarnation that has made no change yet
abbrev pub first_log : ℕ → List Held → LocalLog
first_log usn rows = record { start_usn = usn; start_rows = rows; changes = [] }

-- the log of an identifier that was never used
abbrev pub no_log : LocalLog
no_log = first_log 0 []

-- the last USN of an incarnation: that of its controller, or the last one that it had
abbrev pub last_usn : LocalLog → ℕ
last_usn h = newest h.changes
  where
    newest : List Change → ℕ
    newest [] = h.start_usn
    newest (c ∷ cs) = c.usn

abbrev pub where_made : Bool → Change → List Held → List Held
where_made true c rows = rows_after c.removed (held_of c.writes) rows
where_made false c rows = rows

abbrev pub after_changes : List Held → List Change → ℕ → List Held
after_changes start [] usn = start
after_changes start (c ∷ cs) usn = where_made (nat_le c.usn usn) c (after_changes start cs usn)

-- the rows that stand after all changes up to a USN
abbrev pub rows_at : LocalLog → ℕ → List Held
rows_at h usn = after_changes (if nat_le h.start_usn usn then h.start_rows else []) h.changes usn

-- no change begins at or before the USN and ends behind it
pub record IsBoundary (h : LocalLog) (usn : ℕ) : Type 0 where
  pub start : (h.start_usn ≤ usn) ⊎ Each (λ x. usn < x.local) h.start_rows
  pub changes : Each (λ c. (c.usn ≤ usn) ⊎ Each (λ x. usn < x.local) (held_of c.writes)) h.changes

-- a change behind a USN: no write is at or before it, and one that takes no USN writes and removes nothing
pub record Follows (before : ℕ) (c : Change) : Type 0 where
  pub rises : before ≤ c.usn
  pub above : Each (λ x. before < x.local) (held_of c.writes)
  pub within : Each (λ x. x.local ≤ c.usn) (held_of c.writes)
  pub idle : c.usn ≤ before → (c.writes ≡ []) × (c.removed ≡ [])

abbrev pub Rises : ℕ → List Change → Type 0
Rises start [] = Unit {0}
Rises start (c ∷ cs) = Follows (newest cs) c × Rises start cs
  where
    newest : List Change → ℕ
    newest [] = start
    newest (d ∷ ds) = d.usn

-- a log that is well kept: USNs never fall, and what a change writes lies between the USN before it and its own
pub record IsKept (h : LocalLog) : Type 0 where
  pub start : Each (λ x. (1 ≤ x.local) × (x.local ≤ h.start_usn)) h.start_rows
  pub changes : Rises h.start_usn h.changes

pub record IsOrdered (m : Mark) : Type 0 where
  pub prop : m.prop ≤ m.obj
  pub obj : m.obj ≤ m.seen

abbrev pub SameUnit : Held → Held → Type 0
SameUnit x y = unit_of x.update.key ≡ unit_of y.update.key

-- a row that a mark leaves out: the row itself, or each row of its unit, was read
abbrev pub IsBelow : List Held → Mark → Held → Type 0
IsBelow rows m r = (r.local ≤ m.prop) ⊎ Each (λ x. SameUnit x r → x.local ≤ m.obj) rows

-- the meaning of a mark: what it leaves out of the rows that its source had is reflected
abbrev pub WatermarkHolds : List Update → Knowledge → LocalLog → Mark → Type 0
WatermarkHolds issued k h m =
    (r : Held) → Member r (rows_at h m.seen) → IsBelow (rows_at h m.seen) m r → Reflects issued k r.update
