use Rattle.std.proofs.Common.{◌≡◌, ◌∙◌, sym, subst, Ok}
use Rattle.adr_disk.proofs.Told.{some_is}
use Rattle.adr_model.specs.Store.{State}
use Rattle.adr_law_journal.specs.Areas.{found}
use Rattle.adr_records.specs.Logged.{IsLogged}
use Rattle.adr_node.specs.Looks.{Tells, bytes_of, due_of, refuses}
use Rattle.adr_node.proofs.looking.tell_of.Goals as goal

pub tell-requires : goal.tell-requires
tell-requires g c = c.requires.formed c.in-Some.state.now (c.in-Some.ensures.in_order.up c.in-Some.state.now c.in-Some.ensures.state).0.formed

pub returns-clause-tells : goal.returns-clause-tells
returns-clause-tells g c = λ s log is.
    let t = c.in-Some.state.now in
    let same : t ≡ s = some_is t s (sym c.in-Some.ensures.state ∙ is) in
    let logged : IsLogged t = c.requires.formed t (c.in-Some.ensures.in_order.up t c.in-Some.ensures.state).0.formed in
    subst (λ (s : State). Tells g.S.Sink (due_of (refuses c.args.sight) (bytes_of c.args.sight c.args.name.now) (Ok (found s log))) c.args.sink.now c.tell.new.sink c.tell.result × IsLogged s) same
    (c.tell.ensures.tells log, logged)
