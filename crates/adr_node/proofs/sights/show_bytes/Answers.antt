use Rattle.adr_model.specs.Store.{updates_of}
use Rattle.adr_node.proofs.sights.show_bytes.Goals as goal

pub report-requires-clause-links : goal.report-requires-clause-links
report-requires-clause-links c =
    let s = c.args.state.now in
    c.formed_rows_have_back_links.ensures s.store.schema (updates_of s.store.rows) c.requires.formed.store.rows

pub report-requires-clause-named : goal.report-requires-clause-named
report-requires-clause-named c = c.requires.formed.store.rows.named
