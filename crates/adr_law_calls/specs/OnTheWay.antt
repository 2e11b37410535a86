-- A reply that may be taken, and what holds of the rows on the way through its items.
use Rattle.std.specs.Prelude.{◌≡◌, ◌≤◌, ◌<◌, ◌==◌, List, [], length, not, nat_lt, Option, None}
use Rattle.std.specs.Bool.{then_some}
use Rattle.std.specs.Option.{option_map}
use Rattle.adr_values.specs.Numbered.{numbered}
use Rattle.adr_values.specs.Vector.{at, first_gap, cursor_limit}
use Rattle.adr_call.specs.declared.refusal.TakeRefusal.{TakeRefusal}
use Rattle.adr_call.specs.declared.refusal.TakeRefusal.TheVariants.{Stale, VectorBehind, SchemaMismatch, RolledBack}
use Rattle.adr_model.specs.Member.{Member, Each}
use Rattle.adr_model.specs.Reflects.{AtMost, Covers, Knowledge, knowledge_of, Reflects}
use Rattle.adr_model.specs.Store.{Held, Normal, State, Store, updates_of}
use Rattle.adr_model.specs.Change.{Change, held_of, rows_after, after}
use Rattle.adr_model.specs.Formed.{AreRising, AreAlone, AreFormedRows, IsClosed}
use Rattle.adr_model.specs.LocalLog.{rows_at}
use Rattle.adr_model.specs.Replica.{Book, log_of}
use Rattle.adr_model.specs.Serve.{Reply}
use Rattle.adr_model.specs.Sound.{AreClassesKnown, IsSoundBook, IsSoundState, IsSoundReply, IsSoundMark, IsSent}
use Rattle.adr_model.specs.Take.{Taking, take_items, taken_change, same_mark, kept_mark, shown_by_last, mark_limit}
use Rattle.adr_model.specs.Write.{object_limit, link_limit, usn_limit}
use Rattle.adr_law_knowledge.specs.Grows.{Grows}
use Rattle.adr_law_calls.specs.Puts.{AreClosed}

-- what is asked of the rows and vectors that take a reply, be they a controller's or not: no limits, and no log of their own
pub record IsSoundBase (book : Book) (s : Store) : Type 0 where
  pub known : Each (λ u. Member u book.issued) (updates_of s.rows)
  pub covered : Each (λ u. Covers (at s.vector) u → Reflects book.issued (knowledge_of s) u) book.issued
  pub purged_within : AtMost (at s.purged) (at s.vector)
  pub rising : AreRising s.rows
  pub locals : Each (λ h. (1 ≤ h.local) × (h.local ≤ s.usn)) s.rows
  pub alone : AreAlone s.rows
  pub rows : AreFormedRows (numbered s.schema) (updates_of s.rows)
  pub closed : IsClosed s
  pub classes : AreClassesKnown (numbered s.schema) (updates_of s.rows)

-- the mark at which the reply begins tells the truth, what it was asked with is covered, and both keep to one schema
pub record IsTakeable (b : Book) (s : State) (r : Reply) : Type 0 where
  pub book : IsSoundBook b
  pub base : IsSoundBase b s.store
  pub reply : IsSoundReply b r
  pub mark : IsSoundMark b (knowledge_of s.store) r.inv r.from
  pub asked : AtMost (at r.asked) (at s.store.vector)
  pub schema : r.schema ≡ s.store.schema

-- what is known on the way: other rows, under the vectors of the start
abbrev pub known_with : State → List Held → Knowledge
known_with s rows = record { rows = updates_of rows; vector = at s.store.vector; purged = at s.store.purged }

-- the rows that the source had
abbrev pub source_rows : Book → Reply → List Held
source_rows book r = rows_at (log_of book r.inv) r.to.seen

-- rows on the way are in order, formed, closed and stem from the start or the reply, and nothing was lost
pub record AreOnTheWay (book : Book) (s : State) (rows : List Held) : Type 0 where
  pub rising : AreRising rows
  pub known : Each (λ u. Member u book.issued) (updates_of rows)
  pub grows : Grows book.issued (knowledge_of s.store) (known_with s rows)
  pub formed : AreFormedRows (numbered s.store.schema) (updates_of rows)
  pub closed : AreClosed (at s.store.vector) (updates_of rows)

-- whatever the reply is: so far the rows are those after the writes, in order and formed, and follow the USN of the start
pub record StaysFormed (s : State) (t : Taking) : Type 0 where
  pub rising : AreRising t.rows
  pub formed : AreFormedRows (numbered s.store.schema) (updates_of t.rows)
  pub alone : AreAlone t.rows
  pub locals : Each (λ h. (1 ≤ h.local) × (h.local ≤ t.usn)) t.rows
  pub made : rows_after [] (held_of t.writes) s.store.rows ≡ t.rows
  pub rises : s.store.usn ≤ t.usn

-- and of a sound reply: what is written is of the reply and follows the USN of the start
pub record IsTakenSoFar (book : Book) (s : State) (r : Reply) (t : Taking) : Type 0 where
  pub steady : StaysFormed s t
  pub rows : AreOnTheWay book s t.rows
  pub sent : Each (λ h. IsSent r h.update) (held_of t.writes)
  pub above : Each (λ h. s.store.usn < h.local) (held_of t.writes)
  pub within : Each (λ h. h.local ≤ t.usn) (held_of t.writes)
  pub idle : t.usn ≤ s.store.usn → t.writes ≡ []

-- four of the refusals of a reply
abbrev pub stale : State → Reply → Option TakeRefusal
stale s r = then_some (not (same_mark r.from (kept_mark s r))) (Stale (kept_mark s r) r.from)

abbrev pub lags : State → Reply → Option TakeRefusal
lags s r = option_map (λ gap. VectorBehind gap.0 gap.1 gap.2) (first_gap r.asked s.store.vector)

abbrev pub other_schema : State → Reply → Option TakeRefusal
other_schema s r = then_some (not (r.schema == s.store.schema)) (SchemaMismatch s.store.schema r.schema)

abbrev pub put_back : State → Reply → Option TakeRefusal
put_back s r = then_some (nat_lt s.store.usn (shown_by_last s r)) (RolledBack s.inv s.store.usn (shown_by_last s r))

-- a reply passes all tests, with what is known after its items and of the state behind it
pub record Passes (s : State) (r : Reply) (t : Taking) (behind : State) : Type 0 where
  pub normal : s.mode ≡ Normal
  pub fresh : stale s r ≡ None
  pub asked : lags s r ≡ None
  pub schema : other_schema s r ≡ None
  pub shown : shown_by_last s r ≤ s.store.usn
  pub items : t.refusal ≡ None
  pub usn : t.usn ≤ usn_limit
  pub objects : t.objects ≤ object_limit
  pub links : t.links ≤ link_limit
  pub cursors : length behind.store.vector ≤ cursor_limit
  pub marks : length behind.store.marks ≤ mark_limit

-- what the items of a reply come to, the change that they make, and the state behind it
abbrev pub taken_items : State → Reply → Taking
taken_items s r = take_items s r.items

abbrev pub change_taken : State → Reply → Change
change_taken s r = taken_change s r (taken_items s r)

abbrev pub state_behind : State → Reply → State
state_behind s r = after s (change_taken s r)

-- the reply may be taken, its change is the one of its items, and it passes all tests
pub record IsTaken (book : Book) (s : State) (r : Reply) (c : Change) : Type 0 where
  pub may : IsTakeable book s r
  pub state : IsSoundState book s
  pub is : change_taken s r ≡ c
  pub passes : Passes s r (taken_items s r) (state_behind s r)
