-- What a store has taken into account: an update that it holds, or what supersedes it, and one of whose ends it holds the death, or collected it.
use Rattle.std.specs.Prelude.{◌≡◌, ◌⊎◌, ◌≤◌, ℕ, List, false}
use Rattle.adr_values.specs.declared.stamp.Oid.{Oid}
use Rattle.adr_values.specs.Vector.{at}
use Rattle.adr_model.specs.Member.{Member}
use Rattle.adr_model.specs.Update.{Identifier, Update, RowOf, ends, inv_of, usn_of, is_older, deleted_attr}
use Rattle.adr_model.specs.Store.{Store, updates_of}

-- a vector as its numbers: up to which USN of each incarnation all was seen
abbrev pub Numbers : Type 0
Numbers = Identifier → ℕ

abbrev pub Covers : Numbers → Update → Type 0
Covers V u = usn_of u ≤ V (inv_of u)

abbrev pub CoversBirth : Numbers → Oid → Type 0
CoversBirth V o = o.birth.usn ≤ V o.birth.inv

abbrev pub AtMost : Numbers → Numbers → Type 0
AtMost V W = (i : Identifier) → V i ≤ W i

-- what of a store says which updates it has taken
pub record Knowledge : Type 0 where
  pub rows : List Update
  pub vector : Numbers
  pub purged : Numbers

abbrev pub knowledge_of : Store → Knowledge
knowledge_of s = record { rows = updates_of s.rows; vector = at s.vector; purged = at s.purged }

-- an update of the same key whose stamp isn't less
pub record Supersedes (u v : Update) : Type 0 where
  pub key : u.key ≡ v.key
  pub stamp : is_older u v ≡ false

abbrev pub IsDeathOf : Oid → Update → Type 0
IsDeathOf o u = u.key ≡ RowOf o deleted_attr

abbrev pub IsDeath : Update → Type 0
IsDeath u = (o : Oid) × IsDeathOf o u

abbrev pub HoldsAtLeast : List Update → Update → Type 0
HoldsAtLeast rows u = (r : Update) × Member r rows × Supersedes r u

abbrev pub HoldsObject : List Update → Oid → Type 0
HoldsObject rows o = (r : Update) × (attr : ℕ) × Member r rows × (r.key ≡ RowOf o attr)

-- the object is held dead
abbrev pub IsTombstoned : List Update → Oid → Type 0
IsTombstoned rows o = (r : Update) × Member r rows × IsDeathOf o r

-- the object was collected: it isn't held, and its birth and a death that was issued are covered by the purged vector
pub record IsPurged (issued : List Update) (k : Knowledge) (o : Oid) : Type 0 where
  pub absent : HoldsObject k.rows o → ⊥
  pub birth : CoversBirth k.purged o
  pub death : Update
  pub is_issued : Member death issued
  pub is_death : IsDeathOf o death
  pub is_covered : Covers k.purged death

-- an end of the update is dead, so that only a death tells anything more, or was collected
abbrev pub Buried : List Update → Knowledge → Update → Oid → Type 0
Buried issued k u o = (IsTombstoned k.rows o × (IsDeath u → Covers k.vector u)) ⊎ IsPurged issued k o

-- the store has taken the update, or what supersedes it, or an end of it is buried there
abbrev pub Reflects : List Update → Knowledge → Update → Type 0
Reflects issued k u = HoldsAtLeast k.rows u ⊎ ((o : Oid) × Member o (ends u.key) × Buried issued k u o)
