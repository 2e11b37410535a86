-- Rows and the live objects that they make, side by side.
use Rattle.std.specs.Prelude.{◌≡◌}
use Rattle.adr_model.specs.Store.{updates_of}
use Rattle.adr_model.specs.Write.{nodes_held}
use Rattle.adr_table.specs.Table.{AreNumbered, IsKept, rows_in}
use Rattle.adr_table.specs.declared.table.Table.{Table}
use Rattle.adr_tree.specs.Tree.{IsTree, nodes_in}
use Rattle.adr_tree.specs.declared.tree.Tree.{Tree}

-- the tree has the live objects of the rows in the table
pub record AreTied (table : Table) (tree : Tree) : Type 0 where
  pub kept : IsKept table
  pub numbered : AreNumbered table
  pub live : IsTree tree
  pub same : nodes_in tree ≡ nodes_held (updates_of (rows_in table))
