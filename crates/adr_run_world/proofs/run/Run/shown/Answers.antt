-- What a controller that is up shows is the directory of its rows.
use Rattle.std.proofs.Common.{refl, sym, ap, subst, ◌∙◌}
use Rattle.std.specs.Prelude.{IsTrue}
use Rattle.adr_model.specs.Directory.{directory}
use Rattle.adr_model.specs.Store.{State, updates_of}
use Rattle.adr_model.specs.World.{shown}
use Rattle.adr_view.specs.BackLinks.{have_back_links}
use Rattle.adr_view.specs.Named.{AreNamed}
use Rattle.adr_run_world.specs.Run.{world_of}
use Rattle.adr_run_world.proofs.Becoming.{found_there}
use Rattle.adr_run_world.proofs.Shows.{rows_shown}
use Rattle.adr_run_world.proofs.Tells.{up_tells}
use Rattle.adr_run_world.proofs.run.Run.shown.Goals as goal

pub directory-requires-clause-links : goal.directory-requires-clause-links
directory-requires-clause-links c =
    let s = c.in-Ok.state.now in
    subst (λ rows. IsTrue (have_back_links (updates_of rows))) (sym c.rows.ensures) (c.formed_rows_have_back_links.ensures s.store.schema (updates_of s.store.rows) c.in-Ok.ensures.up.2.formed.store.rows)

pub directory-requires-clause-named : goal.directory-requires-clause-named
directory-requires-clause-named c = subst (λ rows. AreNamed (updates_of rows)) (sym c.rows.ensures) c.in-Ok.ensures.up.2.formed.store.rows.named

pub returns : goal.returns
returns c =
    let w = world_of c.args.self.now in
    let d = c.index.result.now in
    let there = found_there c.args.self.now c.args.name.now c.in-Some.place d c.in-Some.ensures.place c.index.ensures c.in-Some.ensures.found in
    up_tells w (shown w) c.args.name.now d there c.in_ok-directory.field-0 c.in-Ok.ensures.up.0
    (c.in_ok-directory.ensures ∙ ap (λ rows. directory (updates_of rows)) (c.rows.ensures ∙ ap (λ (s : State). s.store.rows) c.in-Ok.ensures.up.1)
    ∙ sym (rows_shown w c.requires.of_run c.args.name.now d there w.clean refl))
