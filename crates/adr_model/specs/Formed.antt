-- Well-formed stores and states.
use Rattle.std.specs.Prelude.{◌≡◌, ◌⊎◌, ◌≤◌, ◌<◌, ℕ, List, ◌∷◌, length, map, true, None, IsSome}
use Rattle.std.specs.List.Sorted.{IsStrictlySortedBy}
use Rattle.adr_values.specs.declared.stamp.Oid.{Oid}
use Rattle.adr_values.specs.declared.stamp.LinkKey.{LinkKey}
use Rattle.adr_values.specs.declared.content.Value.{Value as Datum}
use Rattle.adr_values.specs.declared.content.Content.TheVariants.{Class, Name, Dead, Values}
use Rattle.adr_values.specs.Table.{Table, has, class_at, must_of, kind_at, is_forward}
use Rattle.adr_values.specs.Allowed.{IsAllowed}
use Rattle.adr_values.specs.Names.{name_fault}
use Rattle.adr_values.specs.Numbered.{numbered}
use Rattle.adr_values.specs.Vector.{IsVector, at, at_most}
use Rattle.adr_values.specs.Times.{AreTimesOf}
use Rattle.adr_model.specs.Member.{Member, Each}
use Rattle.adr_model.specs.Update.{Identifier, Update, RowOf, LinkOf, Said, Holds, key_order, unit_of, ends, class_attr, name_attr, deleted_attr}
use Rattle.adr_model.specs.Live.{objects_of}
use Rattle.adr_model.specs.Reflects.{CoversBirth, HoldsObject, IsTombstoned}
use Rattle.adr_model.specs.Store.{Held, PartnerMark, Store, State, updates_of}
use Rattle.adr_model.specs.Serve.{last_local}
use Rattle.adr_model.specs.LocalLog.{IsOrdered}
use Rattle.adr_model.specs.Write.{object_limit, link_limit, links_in}
use Rattle.adr_model.specs.Take.{mark_limit, is_birth}

-- a row of this attribute says this
abbrev pub HasRow : List Update → Oid → ℕ → (Said → Type 0) → Type 0
HasRow rows o attr P = (r : Update) × Member r rows × (r.key ≡ RowOf o attr) × P r.said

-- an object has a class, and a name that is allowed
pub record IsNamed (rows : List Update) (o : Oid) : Type 0 where
  pub class : ℕ
  pub of_class : HasRow rows o class_attr (λ said. said ≡ Holds (Class class))
  pub text : List ℕ
  pub parent : Identifier
  pub of_name : HasRow rows o name_attr (λ said. said ≡ Holds (Name text parent))
  pub well_named : name_fault text ≡ None

-- a live object keeps to the schema: its attributes are allowed, and those that it must have are there
pub record KeepsSchema (table : Table) (rows : List Update) (o : Oid) (class : ℕ) : Type 0 where
  pub known : IsSome (class_at table class)
  pub allowed : (attr : ℕ) → deleted_attr < attr → Each (λ r. r.key ≡ RowOf o attr → (vs : List Datum) × (r.said ≡ Holds (Values vs)) × IsAllowed table class attr vs) rows
  pub whole : (attr : ℕ) → has (must_of table class) attr ≡ true → HasRow rows o attr (λ said. (v : Datum) × (vs : List Datum) × (said ≡ Holds (Values (v ∷ vs))))

-- a dead object has its class, its name and its death, and nothing else
pub record IsDeadFormed (rows : List Update) (o : Oid) : Type 0 where
  pub dead : HasRow rows o deleted_attr (λ said. said ≡ Holds Dead)
  pub bare : (attr : ℕ) → deleted_attr < attr → Each (λ r. r.key ≡ RowOf o attr → ⊥) rows

abbrev pub IsObjectFormed : Table → List Update → Oid → Type 0
IsObjectFormed table rows o = IsDeadFormed rows o ⊎ ((IsTombstoned rows o → ⊥) × ((class : ℕ) → HasRow rows o class_attr (λ said. said ≡ Holds (Class class)) → KeepsSchema table rows o class))

-- a link is under the attribute of a forward link, and has no dead end
pub record IsLinkFormed (table : Table) (rows : List Update) (l : LinkKey) : Type 0 where
  pub forward : is_forward (kind_at table l.attr) ≡ true
  pub from : IsTombstoned rows l.from → ⊥
  pub to : IsTombstoned rows l.to → ⊥

-- no table is over its limit
pub record IsWithinLimits (s : Store) : Type 0 where
  pub objects : length (objects_of (updates_of s.rows)) ≤ object_limit
  pub links : links_in s.rows ≤ link_limit
  pub marks : length s.marks ≤ mark_limit

-- rows are whole and keep to a schema; no attribute has the number 0
pub record AreFormedRows (table : Table) (rows : List Update) : Type 0 where
  pub none : (o : Oid) → Each (λ r. r.key ≡ RowOf o 0 → ⊥) rows
  pub named : (o : Oid) → HoldsObject rows o → IsNamed rows o
  pub births : (o : Oid) → Each (λ r. r.key ≡ RowOf o class_attr → is_birth o r ≡ true) rows
  pub objects : (o : Oid) → HoldsObject rows o → IsObjectFormed table rows o
  pub links : (l : LinkKey) → Each (λ r. r.key ≡ LinkOf l → IsLinkFormed table rows l) rows

-- rows in order of their keys, of each key one
abbrev pub AreRising : List Held → Type 0
AreRising rows = IsStrictlySortedBy key_order (map (λ h. h.update.key) rows)

-- no two units share their last local USN
abbrev pub AreAlone : List Held → Type 0
AreAlone rows =
    Each (λ h. Each (λ g. last_local rows (unit_of h.update.key) ≡ last_local rows (unit_of g.update.key) → unit_of h.update.key ≡ unit_of g.update.key) rows) rows

pub record IsFormedStore (s : Store) : Type 0 where
  pub vector : IsVector s.vector
  pub times : AreTimesOf s.vector s.times
  pub purged : IsVector s.purged
  pub purged_within : at_most s.purged s.vector ≡ true
  pub marks : Each (λ (k : Identifier × PartnerMark). IsOrdered k.1.mark) s.marks
  pub rising : AreRising s.rows
  pub locals : Each (λ h. (1 ≤ h.local) × (h.local ≤ s.usn)) s.rows
  pub alone : AreAlone s.rows
  pub rows : AreFormedRows (numbered s.schema) (updates_of s.rows)
  pub limits : IsWithinLimits s

-- a state is formed where its own cursor is its USN, too
pub record IsFormed (s : State) : Type 0 where
  pub store : IsFormedStore s.store
  pub own : at s.store.vector s.inv ≡ s.store.usn

-- no link has an absent end whose birth the vector covers
abbrev pub IsClosed : Store → Type 0
IsClosed s = (l : LinkKey) → Each (λ r. r.key ≡ LinkOf l → Each (λ o. HoldsObject (updates_of s.rows) o ⊎ (CoversBirth (at s.vector) o → ⊥)) (ends (LinkOf l))) (updates_of s.rows)
