-- A list of nodes that is kept is that of the definitions.
use Rattle.std.specs.Prelude.{◌≡◌, ℕ, List, false}
use Rattle.adr_values.specs.Numbered.{numbered}
use Rattle.adr_values.specs.Table.{is_superior}
use Rattle.adr_model.specs.Update.{Identifier}
use Rattle.adr_model.specs.Place.{Node, node_at}
use Rattle.adr_model.specs.Store.{Held}
use Rattle.adr_model.specs.Formed.{AreRising}
use Rattle.adr_law_tree.specs.InOrder.{AreInOrder}
use Rattle.adr_law_tree.specs.Edits.{tree_of}

-- nodes in order with the look-ups of rows in order are the live objects of the rows
abbrev pub TreeLaw : Type 0
TreeLaw = (rows : List Held) → AreRising rows → (all : List Node) → AreInOrder all
    → ((g : Identifier) → node_at all g ≡ node_at (tree_of rows) g) → all ≡ tree_of rows

-- nothing may be written under LostAndFound
abbrev pub LostSuperiorLaw : Type 0
LostSuperiorLaw = (schema class : ℕ) → is_superior (numbered schema) class 2 ≡ false
