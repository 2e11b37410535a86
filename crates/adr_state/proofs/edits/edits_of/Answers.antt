use Rattle.std.proofs.Common.{List, sym, subst, ◌∙◌, ap}
use Rattle.adr_model.specs.Change.{rows_after}
use Rattle.adr_model.specs.Place.{node_at}
use Rattle.adr_model.specs.Store.{updates_of}
use Rattle.adr_model.specs.Write.{nodes_held}
use Rattle.adr_table.specs.Table.{rows_in}
use Rattle.adr_tree.specs.Edits.{AreOwn, edited}
use Rattle.adr_tree.specs.declared.edit.Edit.{Edit}
use Rattle.adr_law_knowledge.proofs.RisingHeld.{rows_after_rise}
use Rattle.adr_state.proofs.Drafting.{drafts_rise, edits_meet, edits_own}
use Rattle.adr_state.proofs.edits.edits_of.Goals as goal

pub edits_to-requires : goal.edits_to-requires
edits_to-requires c =
    let rows = rows_in c.args.table.now in
    drafts_rise rows (rows_after c.args.removed.now c.args.rows.now rows) c.in_ok-drafts.drafts c.are_ordered.ensures
    (rows_after_rise c.args.removed.now c.args.rows.now rows c.are_rising.ensures) c.in_ok-drafts.ensures

pub returns-clause-own : goal.returns-clause-own
returns-clause-own c = subst AreOwn (sym c.in_ok-edits.ensures) (edits_own c.in_ok-drafts.drafts.entries)

pub returns-clause-nodes : goal.returns-clause-nodes
returns-clause-nodes c guid =
    let rows = rows_in c.args.table.now in
    ap (λ (es : List Edit). edited es guid (node_at (nodes_held (updates_of rows)) guid)) c.in_ok-edits.ensures
    ∙ edits_meet rows (rows_after c.args.removed.now c.args.rows.now rows) c.in_ok-drafts.drafts c.are_ordered.ensures
    (rows_after_rise c.args.removed.now c.args.rows.now rows c.are_rising.ensures) c.in_ok-drafts.ensures guid c.are_rising.ensures
