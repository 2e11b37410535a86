use Rattle.std.proofs.Common.{◌≡◌, true, List, sym, subst, ◌∙◌}
use Rattle.std.specs.Prelude.{IfOk}
use Rattle.std.specs.List.{find}
use Rattle.std.specs.Option.{option_map}
use Rattle.adr_call.specs.declared.directory.Entry.{Entry}
use Rattle.adr_model.specs.Directory.{directory}
use Rattle.adr_model.specs.Store.{Held, updates_of}
use Rattle.adr_model.specs.Update.{same_identifier}
use Rattle.adr_view.specs.BackLinks.{have_back_links}
use Rattle.adr_view.specs.Named.{AreNamed}
use Rattle.adr_view.specs.Seen.{seen_of}
use Rattle.adr_revival.proofs.archive.Archive.shown_at.Goals as goal

pub shown_at-requires-clause-links : goal.shown_at-requires-clause-links
shown_at-requires-clause-links c =
    let i = c.is_of_image.ensures in
    subst (λ (rows : List Held). have_back_links (updates_of rows) ≡ true) (i.1.1 ∙ sym c.rows.ensures)
    (c.formed_rows_have_back_links.ensures i.0.schema (updates_of i.0.rows) i.2.rows)

pub shown_at-requires-clause-named : goal.shown_at-requires-clause-named
shown_at-requires-clause-named c =
    let i = c.is_of_image.ensures in
    subst (λ (rows : List Held). AreNamed (updates_of rows)) (i.1.1 ∙ sym c.rows.ensures) i.2.rows.named

pub returns : goal.returns
returns c =
    subst (λ (rows : List Held). IfOk c.shown_at.result (λ shown. shown ≡ option_map seen_of (find (λ (e : Entry). same_identifier e.guid c.args.guid) (directory (updates_of rows)))))
    c.rows.ensures c.shown_at.ensures
