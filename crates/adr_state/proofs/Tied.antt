-- The tree has the live objects of the rows after a change.
use Rattle.std.proofs.Common.{◌≡◌, List, ap, ◌∙◌}
use Rattle.adr_model.specs.Formed.{AreRising}
use Rattle.adr_model.specs.Place.{Node, node_at}
use Rattle.adr_model.specs.Store.{Held, updates_of}
use Rattle.adr_model.specs.Update.{Identifier}
use Rattle.adr_model.specs.Write.{nodes_held}
use Rattle.adr_law_tree.specs.InOrder.{AreInOrder}
use Rattle.adr_law_tree.proofs.Trees.{tree_law}
use Rattle.adr_table.specs.Table.{rows_in}
use Rattle.adr_table.specs.declared.table.Table.{Table}
use Rattle.adr_tree.specs.Tree.{nodes_in}
use Rattle.adr_tree.specs.declared.tree.Tree.{Tree}
use Rattle.adr_state.specs.Rows.{AreTied}
use Rattle.adr_tree.specs.Edits.{edited}
use Rattle.adr_tree.specs.declared.edit.Edit.{Edit}

-- the tree's nodes are the live objects of the rows that are seen
pub nodes_tied : (table : Table) (tree : Tree) (rows : List Held) → AreTied table tree → rows_in table ≡ rows → nodes_in tree ≡ nodes_held (updates_of rows)
nodes_tied table tree rows tied seen = tied.same ∙ ap (λ (hs : List Held). nodes_held (updates_of hs)) seen

pub still_tied : (rows after : List Held) (edits : List Edit) (all new : List Node) → AreRising after → AreInOrder new → all ≡ nodes_held (updates_of rows)
    → ((g : Identifier) → node_at new g ≡ edited edits g (node_at all g))
    → ((g : Identifier) → edited edits g (node_at (nodes_held (updates_of rows)) g) ≡ node_at (nodes_held (updates_of after)) g)
    → new ≡ nodes_held (updates_of after)
still_tied rows after edits all new rising order same made right =
    tree_law after rising new order (λ g. made g ∙ ap (λ (ns : List Node). edited edits g (node_at ns g)) same ∙ right g)
