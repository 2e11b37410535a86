use Rattle.std.proofs.Common.{sym, subst}
use Rattle.std.specs.Prelude.{IsTrue}
use Rattle.adr_model.specs.Store.{updates_of}
use Rattle.adr_view.specs.BackLinks.{have_back_links}
use Rattle.adr_view.specs.Named.{AreNamed}
use Rattle.adr_node.proofs.sights.export_bytes.Goals as goal

pub directory-requires-clause-links : goal.directory-requires-clause-links
directory-requires-clause-links c =
    let s = c.args.state.now in
    subst (λ rows. IsTrue (have_back_links (updates_of rows))) (sym c.rows.ensures) (c.formed_rows_have_back_links.ensures s.store.schema (updates_of s.store.rows) c.requires.formed.store.rows)

pub directory-requires-clause-named : goal.directory-requires-clause-named
directory-requires-clause-named c = subst (λ rows. AreNamed (updates_of rows)) (sym c.rows.ensures) c.requires.formed.store.rows.named
