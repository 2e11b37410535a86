use Rattle.std.proofs.Common.{◌≡◌, List, sym, ap, ◌∙◌}
use Rattle.adr_model.specs.Change.{rows_after}
use Rattle.adr_model.specs.Place.{node_at}
use Rattle.adr_model.specs.Store.{Held, updates_of}
use Rattle.adr_model.specs.Write.{nodes_held}
use Rattle.adr_table.specs.Table.{rows_in}
use Rattle.adr_tree.specs.Tree.{nodes_in}
use Rattle.adr_state.proofs.Tied.{still_tied}
use Rattle.adr_state.proofs.rows.Rows.write.Goals as goal

pub invariant_of-self-2 : goal.invariant_of-self-2
invariant_of-self-2 c =
    let rows = rows_in c.self.inside.table in
    let after : rows_in c.write.new.self ≡ rows_after c.args.removed.now c.as_slice.result.now rows =
    c.write.ensures.rows ∙ ap (λ (hs : List Held). rows_after c.args.removed.now c.args.rows.items hs) c.reserve-2.ensures.rows
    ∙ ap (λ (ws : List Held). rows_after c.args.removed.now ws rows) (sym c.as_slice.ensures.value) in
    record {
      kept = c.write.ensures.kept;
      numbered = c.write.ensures.numbered;
      live = c.apply.ensures.tree;
      same = still_tied rows (rows_in c.write.new.self) c.in_ok-edits.edits.items (nodes_in c.reserve.new.self) (nodes_in c.apply.new.self)
          c.are_rising.ensures c.are_in_order.ensures (c.reserve.ensures.nodes ∙ c.self.invariant.same) c.apply.ensures.nodes
          (λ g. c.in_ok-edits.ensures.nodes g ∙ ap (λ (hs : List Held). node_at (nodes_held (updates_of hs)) g) (sym after));
    }

pub returns-clause-ok : goal.returns-clause-ok
returns-clause-ok c =
    c.write.ensures.rows ∙ ap (λ (hs : List Held). rows_after c.args.removed.now c.args.rows.items hs) (c.reserve-2.ensures.rows ∙ c.self.view_is)

pub invariant_of-self-in_err-spare : goal.invariant_of-self-in_err-spare
invariant_of-self-in_err-spare c =
    record {
      kept = c.reserve-2.ensures.kept;
      numbered = c.reserve-2.ensures.numbered;
      live = c.reserve.ensures.tree;
      same = c.reserve.ensures.nodes ∙ c.self.invariant.same ∙ ap (λ (hs : List Held). nodes_held (updates_of hs)) (sym c.reserve-2.ensures.rows);
    }
