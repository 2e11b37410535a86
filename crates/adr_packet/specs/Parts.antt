-- What requests and replies are made of: who asks whom, from where to where a reply reaches, and items.
use Rattle.std.specs.Prelude.{if◌then◌else◌, ◌≡◌, ℕ, List, ◌++◌, length, None}
use Rattle.std.specs.List.{flat_map}
use Rattle.adr_values.specs.declared.mark.Mark.{Mark}
use Rattle.adr_wire.specs.Composites.{ordered_mark_at, mark}
use Rattle.adr_wire.specs.Fields.{id_at, id, u32_at, u32}
use Rattle.adr_wire.specs.Pieces.{Piece, piece_at, IsPiece}
use Rattle.adr_wire.specs.Ranges.{IsId, IsOrderedMark, IsU32, InTurn}
use Rattle.adr_wire.specs.Reading.{Reading, as_at, then_at, elements_at}
use Rattle.adr_model.specs.Update.{Identifier}
use Rattle.adr_model.specs.Change.{Item}
use Rattle.adr_image.specs.Changes.{item_of, unit_bytes}

-- ---- who asks, who is asked, and of which incarnation

abbrev pub Parties : Type 0
Parties = Identifier × (Identifier × Identifier)

unfoldable pub parties_at : Reading Parties
parties_at = then_at id_at (λ _. then_at id_at (λ _. id_at))

abbrev pub parties : Parties → List ℕ
parties p = id p.0 ++ (id p.1.0 ++ id p.1.1)

abbrev pub AreParties : Parties → Type 0
AreParties p = IsId p.0 × (IsId p.1.0 × IsId p.1.1)

-- ---- from where to where a reply reaches: two marks, each in order, else a fault at its first byte

abbrev pub Reach : Type 0
Reach = Mark × Mark

unfoldable pub reach_at : Reading Reach
reach_at = then_at ordered_mark_at (λ _. ordered_mark_at)

abbrev pub reach : Reach → List ℕ
reach p = mark p.0 ++ mark p.1

abbrev pub IsReach : Reach → Type 0
IsReach p = IsOrderedMark p.0 × IsOrderedMark p.1

-- ---- items: a count, and so many, in any order

unfoldable pub item_at : Reading Item
item_at = as_at item_of piece_at

abbrev pub item : Item → List ℕ
item i = unit_bytes i.unit i.rows

-- an item that a piece in range is
pub record IsItem (i : Item) : Type 0 where
  pub piece : Piece
  pub in_range : IsPiece piece
  pub says : i ≡ item_of piece

abbrev pub one_item : Item → Unit {0}
one_item i = tt

unfoldable pub items_at : Reading (List Item)
items_at = as_at (λ p. p.1) (then_at u32_at (λ count. elements_at one_item (λ _. item_at) count None))

abbrev pub items : List Item → List ℕ
items is = u32 (length is) ++ flat_map item is

abbrev pub AreItems : List Item → Type 0
AreItems is = IsU32 (length is) × InTurn one_item (λ _. IsItem) None is
