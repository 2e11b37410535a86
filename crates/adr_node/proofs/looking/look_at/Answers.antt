use Rattle.std.proofs.Common.{sym, subst}
use Rattle.adr_node.specs.Looks.{Looks, bytes_of, due_of, refuses}
use Rattle.adr_node.specs.Seen.{of_keeper}
use Rattle.adr_node.proofs.Started.{started_looks}
use Rattle.adr_node.proofs.looking.look_at.Goals as goal

pub returns : goal.returns
returns g c = λ keeper b.
    let f = refuses c.args.sight in
    let by = bytes_of c.args.sight c.args.name.now in
    let t = c.tell_of-ended in
    let told = t.ensures.tells b.started.state b.started.log b.started.in_memory in
    subst (λ (x : g.row.K.Denot). Looks (of_keeper g.K.Keeper) g.S.Sink (due_of f by) keeper x c.args.sink.now t.new.sink t.result) (sym c.into_keeper.ensures)
    (started_looks g.K.Keeper g.S.Sink f by g.met.K.Keeper.tells g.met.K.Keeper.leaves keeper c.args.controller c.args.sink.now t.new.sink t.result b t.ensures.in_order told.0 told.1 t.ensures.no_fault)
