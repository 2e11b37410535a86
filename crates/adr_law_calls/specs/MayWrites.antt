-- What the rows that a write writes have to be in a sound state.
use Rattle.std.specs.Prelude.{◌≡◌, ◌⊎◌, ◌≤◌, ℕ, ◌+◌, List, [], ◌∷◌, length, Bool, true}
use Rattle.adr_values.specs.declared.stamp.Oid.{Oid}
use Rattle.adr_values.specs.declared.stamp.LinkKey.{LinkKey}
use Rattle.adr_values.specs.declared.stamp.Unit.{Unit as Named}
use Rattle.adr_values.specs.declared.stamp.Unit.TheVariants.{Object, Link}
use Rattle.adr_values.specs.Table.{kind_at, is_forward}
use Rattle.adr_values.specs.Numbered.{numbered}
use Rattle.adr_values.specs.declared.content.Content.TheVariants.{Class}
use Rattle.adr_values.specs.Vector.{at, raised, cursor_limit}
use Rattle.adr_model.specs.Member.{Member, Each}
use Rattle.adr_model.specs.Update.{Update, LinkOf, Holds, IsPresent, ends, class_attr}
use Rattle.adr_model.specs.Live.{objects_of}
use Rattle.adr_model.specs.Reflects.{HoldsObject, IsTombstoned}
use Rattle.adr_model.specs.Store.{State, updates_of}
use Rattle.adr_model.specs.Change.{Item, Written, after}
use Rattle.adr_model.specs.Formed.{HasRow}
use Rattle.adr_model.specs.Write.{object_limit, link_limit, links_in, own_change}
use Rattle.adr_law_calls.specs.Puts.{MayPut}
use Rattle.adr_law_calls.specs.Forms.{MayChange, MayCome}

-- an object of this class is held and not dead
pub record IsLive (rows : List Update) (o : Oid) (class : ℕ) : Type 0 where
  pub of_class : HasRow rows o class_attr (λ said. said ≡ Holds (Class class))
  pub alive : IsTombstoned rows o → ⊥

-- one more object and one more cursor are within the limits
pub record HasRoom (s : State) : Type 0 where
  pub objects : length (objects_of (updates_of s.store.rows)) + 1 ≤ object_limit
  pub cursors : length (raised s.store.vector s.inv (s.store.usn + 1)) ≤ cursor_limit

-- an object is held and not dead
abbrev pub IsHeldAlive : List Update → Oid → Type 0
IsHeldAlive rows o = HoldsObject rows o × (IsTombstoned rows o → ⊥)

abbrev pub HoldsLink : List Update → LinkKey → Type 0
HoldsLink rows l = (r : Update) × Member r rows × (r.key ≡ LinkOf l)

-- rows of a forward link of live objects, of which a row is held or one more is within the limit
pub record MayLink (s : State) (l : LinkKey) (us : List Update) : Type 0 where
  pub forward : is_forward (kind_at (numbered s.store.schema) l.attr) ≡ true
  pub ends : Each (IsHeldAlive (updates_of s.store.rows)) (ends (LinkOf l))
  pub said : Each (λ u. (present : Bool) × (u.said ≡ IsPresent present)) us
  pub room : HoldsLink (updates_of s.store.rows) l ⊎ (links_in s.store.rows + 1 ≤ link_limit)

-- rows of an object that is held, or all rows of one that comes, with room for it
abbrev pub Changes : State → Oid → ℕ → List Update → Type 0
Changes s o class us = MayChange (numbered s.store.schema) (updates_of s.store.rows) o class us

abbrev pub Comes : State → Oid → ℕ → List Update → Type 0
Comes s o class us = MayCome (numbered s.store.schema) (updates_of s.store.rows) o class us × HasRoom s

abbrev pub Fits : State → Named → List Update → Type 0
Fits s (Object o) us = (class : ℕ) × (Changes s o class us ⊎ Comes s o class us)
Fits s (Link l) us = MayLink s l us

-- rows of one unit that a write may write: such as the schema wants, and none older than what is held
pub record MayWrite (s : State) (unit : Named) (us : List Update) : Type 0 where
  pub put : MayPut (updates_of s.store.rows) (at s.store.vector) unit us
  pub fits : Fits s unit us

-- the state behind one item that is written under the next USN
abbrev pub after_item : State → Item → State
after_item s item = after s (own_change s (record { local = s.store.usn + 1; item = item } ∷ []))

-- items that are written one after the other, each under the next USN, and each of which may be written where those before it
-- were
abbrev pub MayWriteInTurn : State → List Written → Type 0
MayWriteInTurn s [] = Unit {0}
MayWriteInTurn s (w ∷ ws) = (w.local ≡ s.store.usn + 1) × MayWrite s w.item.unit w.item.rows × MayWriteInTurn (after_item s w.item) ws
