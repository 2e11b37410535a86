-- Which changes can follow a state: each write is judged at its turn, what is left behind the whole change.
use Rattle.std.specs.Prelude.{◌≡◌, ◌⊎◌, ◌≤◌, List, [], ◌∷◌, length, true, ℕ}
use Rattle.std.specs.Option.{IfSome}
use Rattle.adr_values.specs.declared.stamp.Oid.{Oid}
use Rattle.adr_values.specs.declared.stamp.Unit.{Unit as Named}
use Rattle.adr_values.specs.declared.stamp.Unit.TheVariants.{Object, Link}
use Rattle.adr_values.specs.declared.content.Content.TheVariants.{Class}
use Rattle.adr_values.specs.Table.{Table, has, must_of}
use Rattle.adr_values.specs.Numbered.{numbered}
use Rattle.adr_values.specs.Vector.{Cursors, IsVector, at}
use Rattle.adr_values.specs.Times.{AreTimesOf}
use Rattle.adr_model.specs.Member.{Member, Each}
use Rattle.adr_model.specs.Update.{Update, LinkOf, Holds, ends, class_attr, name_attr}
use Rattle.adr_model.specs.Live.{objects_of}
use Rattle.adr_model.specs.Reflects.{Covers, CoversBirth, HoldsObject, IsTombstoned, IsDeathOf}
use Rattle.adr_model.specs.Store.{Held, Normal, State, updates_of}
use Rattle.adr_model.specs.Change.{Item, Written, Change, held_of, rows_after, after}
use Rattle.adr_model.specs.Formed.{HasRow, IsFormed}
use Rattle.adr_model.specs.LocalLog.{IsOrdered}
use Rattle.adr_model.specs.Sound.{AreClassesKnown}
use Rattle.adr_model.specs.Write.{object_limit, link_limit, links_in}
use Rattle.adr_model.specs.Take.{is_above}
use Rattle.adr_model.specs.Upgrade.{upgraded}
use Rattle.adr_law_calls.specs.Forms.{HasKey}
use Rattle.adr_model.specs.Spelled.{AreLocalsRising, IsSpelledItem}

-- ---- one write

-- rows of a new object: its class, its name, and its death or all that it must have
pub record IsWhole (table : Table) (o : Oid) (us : List Update) : Type 0 where
  pub class : ℕ
  pub of_class : HasRow us o class_attr (λ said. said ≡ Holds (Class class))
  pub of_name : HasKey us o name_attr
  pub whole :
      ((d : Update) × Member d us × IsDeathOf o d)
      ⊎ ((attr : ℕ) → has (must_of table class) attr ≡ true → HasKey us o attr)

-- an object that is written to is dead and only dies, or stands, or is new and comes whole
abbrev pub MayWriteObject : Table → Cursors → List Held → Oid → List Update → Type 0
MayWriteObject table vector rows o us =
    (IsTombstoned (updates_of rows) o × Each (IsDeathOf o) us)
    ⊎ (((IsTombstoned (updates_of rows) o → ⊥) × HoldsObject (updates_of rows) o)
    ⊎ ((HoldsObject (updates_of rows) o → ⊥) × (CoversBirth (at vector) o → ⊥) × IsWhole table o us))

-- an end of a link isn't dead, and is held or wasn't seen
abbrev pub IsEndThere : Cursors → List Held → Oid → Type 0
IsEndThere vector rows o =
    (IsTombstoned (updates_of rows) o → ⊥)
    × (HoldsObject (updates_of rows) o ⊎ (CoversBirth (at vector) o → ⊥))

abbrev pub MayWriteUnit : Table → Cursors → List Held → Named → List Update → Type 0
MayWriteUnit table vector rows (Object o) us = MayWriteObject table vector rows o us
MayWriteUnit table vector rows (Link l) us = Each (IsEndThere vector rows) (ends (LinkOf l))

-- one write, judged by the rows that stand at its turn and by the vector before the change: it has a row and the form of
-- an item, each row is new or greater than the held one, and its unit may be written to
pub record MayFollow (table : Table) (vector : Cursors) (rows : List Held) (item : Item) : Type 0 where
  pub some : (u : Update) × Member u item.rows
  pub form : IsSpelledItem item
  pub greater : Each (λ u. is_above rows u ≡ true) item.rows
  pub unit : MayWriteUnit table vector rows item.unit item.rows

-- ---- one write after the other

abbrev pub AreWithinLimits : List Held → Type 0
AreWithinLimits rows = (length (objects_of (updates_of rows)) ≤ object_limit) × (links_in rows ≤ link_limit)

-- rows after one write
abbrev pub after_write : List Held → Written → List Held
after_write rows w = rows_after [] (held_of (w ∷ [])) rows

-- each write may follow at its turn, and no table is over its limit behind it
abbrev pub MayFollowInTurn : Table → Cursors → List Held → List Written → Type 0
MayFollowInTurn table vector rows [] = Unit {0}
MayFollowInTurn table vector rows (w ∷ ws) =
    MayFollow table vector rows w.item × AreWithinLimits (after_write rows w)
    × MayFollowInTurn table vector (after_write rows w) ws

-- ---- the whole change

-- a removed object is held dead, and its birth and its death are purged: so they are covered, since no more is purged
-- than is covered
pub record IsRemovable (rows : List Held) (purged : Cursors) (o : Oid) : Type 0 where
  pub death : Update
  pub is_held : Member death (updates_of rows)
  pub is_death : IsDeathOf o death
  pub birth_purged : CoversBirth (at purged) o
  pub death_purged : Covers (at purged) death

-- a change goes on from a state that is up: USNs rise, marks, vectors and times are in order, each write may follow, and each
-- removed object is dead behind the writes. Only an upgrade changes the schema's number, and changes nothing else
pub record GoesOn (s : State) (c : Change) : Type 0 where
  pub normal : s.mode ≡ Normal
  pub rises : s.store.usn ≤ c.usn
  pub locals : AreLocalsRising s.store.usn c.usn c.writes
  pub mark : IfSome c.mark (λ m. IsOrdered m.1.mark)
  pub schema : (c.schema ≡ s.store.schema) ⊎ (c ≡ upgraded s)
  pub joined : IsVector c.joined
  pub times : AreTimesOf c.joined c.times
  pub purged : IsVector c.purged
  pub writes : MayFollowInTurn (numbered s.store.schema) s.store.vector s.store.rows c.writes
  pub removed :
      Each (IsRemovable (rows_after [] (held_of c.writes) s.store.rows) (after s c).store.purged) c.removed

-- the class of every object that is held is in the schema's table, also of a dead one
abbrev pub HasKnownClasses : State → Type 0
HasKnownClasses s = AreClassesKnown (numbered s.store.schema) (updates_of s.store.rows)

-- a change can follow a state where it goes on from it and leaves a formed one with known classes
pub record CanFollow (s : State) (c : Change) : Type 0 where
  pub goes_on : GoesOn s c
  pub formed : IsFormed (after s c)
  pub classes : HasKnownClasses (after s c)
