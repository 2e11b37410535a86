-- What can follow, by looking at what a change touches and at nothing else that it leaves.
use Rattle.std.specs.Prelude.{◌≡◌, ◌≤◌, ℕ, List, length, true, IsSome}
use Rattle.adr_values.specs.declared.stamp.Oid.{Oid}
use Rattle.adr_values.specs.declared.stamp.LinkKey.{LinkKey}
use Rattle.adr_values.specs.declared.stamp.Unit.TheVariants.{Object, Link}
use Rattle.adr_values.specs.declared.content.Content.TheVariants.{Class}
use Rattle.adr_values.specs.Table.{Table, class_at, kind_at, is_forward}
use Rattle.adr_values.specs.Numbered.{numbered}
use Rattle.adr_values.specs.Vector.{at, cursor_limit}
use Rattle.adr_model.specs.Member.{Member, Each}
use Rattle.adr_model.specs.Update.{Update, RowOf, LinkOf, Holds, class_attr}
use Rattle.adr_model.specs.Reflects.{AtMost, HoldsObject}
use Rattle.adr_model.specs.Store.{State, updates_of}
use Rattle.adr_model.specs.Change.{Change, after}
use Rattle.adr_model.specs.Formed.{IsNamed, IsObjectFormed}
use Rattle.adr_model.specs.Take.{is_birth, mark_limit}
use Rattle.adr_law_calls.specs.Follow.{GoesOn}

-- what formed rows and known classes say of one object
pub record IsInForm (table : Table) (rows : List Update) (o : Oid) : Type 0 where
  pub none : Each (λ r. r.key ≡ RowOf o 0 → ⊥) rows
  pub births : Each (λ r. r.key ≡ RowOf o class_attr → is_birth o r ≡ true) rows
  pub classes :
      Each (λ r. r.key ≡ RowOf o class_attr → (class : ℕ) → r.said ≡ Holds (Class class) → IsSome (class_at table class))
      rows
  pub named : HoldsObject rows o → IsNamed rows o
  pub formed : HoldsObject rows o → IsObjectFormed table rows o

-- a link that stands is a forward one
abbrev pub IsLinkForward : Table → List Update → LinkKey → Type 0
IsLinkForward table rows l =
    (r : Update) → Member r rows → r.key ≡ LinkOf l → is_forward (kind_at table l.attr) ≡ true

-- each object that is written to is in form, and each link that is written and stands is a forward one
pub record AreTouchedInForm (table : Table) (rows : List Update) (c : Change) : Type 0 where
  pub objects : Each (λ w. (o : Oid) → w.item.unit ≡ Object o → IsInForm table rows o) c.writes
  pub links : Each (λ w. (l : LinkKey) → w.item.unit ≡ Link l → IsLinkForward table rows l) c.writes

-- what `CanFollow` asks, told by what the change touches
pub record CanFollowByTouched (s : State) (c : Change) : Type 0 where
  pub goes_on : GoesOn s c
  pub touched : AreTouchedInForm (numbered c.schema) (updates_of (after s c).store.rows) c
  pub own : at c.joined s.inv ≤ c.usn
  pub within : AtMost (at c.purged) (at (after s c).store.vector)
  pub cursors : length (after s c).store.vector ≤ cursor_limit
  pub marks : length (after s c).store.marks ≤ mark_limit
