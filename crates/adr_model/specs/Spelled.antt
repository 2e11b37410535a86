-- Rows, replies and changes of the form in which they are read, as far as the forms of states need it.
use Rattle.std.specs.Prelude.{◌≡◌, ◌≤◌, ◌<◌, ℕ, List, [], ◌∷◌, map, unwrap_or}
use Rattle.std.specs.Option.{IfSome}
use Rattle.std.specs.List.Sorted.{IsStrictlySortedBy}
use Rattle.adr_values.specs.declared.content.Content.{Content}
use Rattle.adr_values.specs.declared.content.Content.TheVariants.{Class, Name, Dead, Values}
use Rattle.adr_values.specs.Vector.{IsVector}
use Rattle.adr_values.specs.Times.{AreTimesOf}
use Rattle.adr_model.specs.Member.{Member, Each}
use Rattle.adr_model.specs.Update.{Key, RowOf, LinkOf, Said, Holds, IsPresent, Update, key_order, unit_of, class_attr, name_attr, deleted_attr}
use Rattle.adr_model.specs.Change.{Item, Written, Change}
use Rattle.adr_model.specs.LocalLog.{IsOrdered}
use Rattle.adr_model.specs.Serve.{Reply}
use Rattle.adr_model.specs.Take.{times_brought}

-- ---- items and replies

-- which content a row of an attribute has
abbrev pub IsContentOfAttr : ℕ → Content → Type 0
IsContentOfAttr attr (Class class) = attr ≡ class_attr
IsContentOfAttr attr (Name text parent) = attr ≡ name_attr
IsContentOfAttr attr Dead = attr ≡ deleted_attr
IsContentOfAttr attr (Values vs) =
    (attr ≡ class_attr → ⊥) × (attr ≡ name_attr → ⊥) × (attr ≡ deleted_attr → ⊥)

-- what a row of a key says
abbrev pub IsSaidOfKey : Key → Said → Type 0
IsSaidOfKey (RowOf o attr) (Holds content) = IsContentOfAttr attr content
IsSaidOfKey (RowOf o attr) (IsPresent b) = ⊥
IsSaidOfKey (LinkOf l) (Holds content) = ⊥
IsSaidOfKey (LinkOf l) (IsPresent b) = Unit {0}

-- rows say what rows of their keys say
abbrev pub SayOfTheirKeys : List Update → Type 0
SayOfTheirKeys rows = Each (λ u. IsSaidOfKey u.key u.said) rows

-- the rows of an item are of its unit, rise by their keys, and say what rows of their attributes say
pub record IsSpelledItem (i : Item) : Type 0 where
  pub of_unit : Each (λ u. unit_of u.key ≡ i.unit) i.rows
  pub rising : IsStrictlySortedBy key_order (map (λ (u : Update). u.key) i.rows)
  pub says : SayOfTheirKeys i.rows

-- the mark of a reply is in order, its vector is one, its times are of that, and its items are spelled
pub record IsSpelledReply (r : Reply) : Type 0 where
  pub to : IsOrdered r.to
  pub last : IsVector (unwrap_or r.last [])
  pub times : AreTimesOf (unwrap_or r.last []) (times_brought r)
  pub items : Each IsSpelledItem r.items

-- ---- changes

-- local USNs rise strictly, above one and up to another
abbrev pub AreLocalsRising : ℕ → ℕ → List Written → Type 0
AreLocalsRising above last [] = Unit {0}
AreLocalsRising above last (w ∷ ws) = (above < w.local) × (w.local ≤ last) × AreLocalsRising w.local last ws

-- an item with a row
abbrev pub IsSpelledWrite : Written → Type 0
IsSpelledWrite w = IsSpelledItem w.item × ((u : Update) × Member u w.item.rows)

-- behind a USN: local USNs rise, a mark is in order, what is joined are vectors, and each write has a row
pub record IsSpelledChange (before : ℕ) (c : Change) : Type 0 where
  pub locals : AreLocalsRising before c.usn c.writes
  pub mark : IfSome c.mark (λ m. IsOrdered m.1.mark)
  pub joined : IsVector c.joined
  pub times : AreTimesOf c.joined c.times
  pub purged : IsVector c.purged
  pub items : Each IsSpelledWrite c.writes
