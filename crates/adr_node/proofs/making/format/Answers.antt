use Rattle.std.proofs.Common.{sym, subst, Ok}
use Rattle.adr_node.specs.Formats.{Formats}
use Rattle.adr_node.specs.Seen.{of_keeper}
use Rattle.adr_node.proofs.Formatted.{formats_err, formats_ok}
use Rattle.adr_node.proofs.Mirrored.{keeper_as_before, keeper_itself}
use Rattle.adr_node.proofs.making.format.Goals as goal

pub returns-in-Ok : goal.returns-in-Ok
returns-in-Ok g c =
    let e = c.in-Ok.ensures in
    subst (λ (x : g.row.K.Denot). Formats (of_keeper g.K.Keeper) c.args.state c.args.keeper x (Ok tt)) (sym c.into_keeper.ensures)
    (formats_ok g.K.Keeper c.args.state c.args.keeper g.met.K.Keeper.tells g.met.K.Keeper.leaves c.in-Ok.controller tt e.ok.0 e.ok.2 c.state.ensures.in_order e.fits e.later e.told e.any_moment e.left)

pub returns-in-Err : goal.returns-in-Err
returns-in-Err g c =
    let e = c.in-Err.ensures in
    let u = c.unformatted.ensures in
    let only_now = g.met.K.Keeper.only_now in
    formats_err g.K.Keeper c.args.state c.args.keeper c.in-Err.keeper c.in-Err.refusal c.unformatted.result e.refused u.fault u.full u.no_memory
    (λ is. let full = e.full is in (keeper_itself g.K.Keeper only_now c.args.keeper c.in-Err.keeper full.0, full.1)) (λ is. (e.fault is).0)
    (λ is. keeper_as_before g.K.Keeper only_now c.args.keeper c.in-Err.keeper (e.unwritten is) (e.no_memory is)) e.later e.told e.any_moment e.left
