use Rattle.std.proofs.Common.{ℕ, List, Ok, Err, inl, subst}
use Rattle.std.specs.Option.{option_map}
use Rattle.std.proofs.lemmas.Result.{err_from_is_err_and}
use Rattle.adr_disk.proofs.Told.{at_told}
use Rattle.adr_pull.specs.Fetch.{made, said_in, turn}
use Rattle.adr_pull.specs.Told.{FindsNear, ReactsSo}
use Rattle.adr_law_controller.proofs.Crashes.{still_crashes}
use Rattle.adr_pull.proofs.Turned.{Here, asked_err, leaves_near, reacts_err, told_err, told_so}
use Rattle.adr_pull.proofs.turning.take_turn.Goals as goal

pub returns-in_err-bytes-clause-turn : goal.returns-in_err-bytes-clause-turn
returns-in_err-bytes-clause-turn g c = λ t p at.
    let r = err_from_is_err_and c.from_residual.result c.from_residual.ensures.1 in
    rw (r.1, r.2)
    (asked_err g.K.Keeper t c.args.name.now c.args.partner p c.in_err-bytes.field-0.0 c.args.controller.now
    (g.N.Net.traffic c.ask.new.net) (g.S.Sink.written c.args.sink.now) at.node
    (at_told (g.N.Net.traffic c.args.net.now) _ (Here g.K.Keeper t c.args.name.now c.args.partner p) at.net
    (c.in_err-bytes.ensures.asked p.stands.state at.node.0)) at.lines)

pub returns-in_err-bytes-clause-any_moment : goal.returns-in_err-bytes-clause-any_moment
returns-in_err-bytes-clause-any_moment g c = λ t p at.
    let law = g.met.K.Keeper in
    still_crashes g.K.Keeper law.leaves law.only_now (FindsNear p (turn c.args.name.now c.args.partner p).0) p.stands c.args.controller.now at.node c.state.ensures.in_order (λ x here. inl here)

pub returns-in_err-came-clause-turn : goal.returns-in_err-came-clause-turn
returns-in_err-came-clause-turn g c = λ t p at.
    let r = err_from_is_err_and c.from_residual-in_err-came.result c.from_residual-in_err-came.ensures.1 in
    let h = at_told (g.N.Net.traffic c.args.net.now) _ (Here g.K.Keeper t c.args.name.now c.args.partner p) at.net
    (c.in_ok-bytes.ensures.asked p.stands.state at.node.0) in
    rw (r.1, r.2)
    (reacts_err g.K.Keeper t c.args.name.now c.args.partner p c.in_ok-bytes.bytes.items h.0 h.1
    (g.N.Net.traffic c.ask.new.net) h.2 c.in_err-came.field-0.0 c.react.new.controller
    (g.S.Sink.written c.args.sink.now)
    (subst (λ (xs : List ℕ). ReactsSo g.K.Keeper p.stands (option_map (made p.stands) (said_in xs))
    (Err c.in_err-came.field-0.0) c.react.new.controller) c.deref.ensures.value
    (c.in_err-came.ensures.reacts p.stands at.node)) at.lines)

pub returns-in_err-came-clause-any_moment : goal.returns-in_err-came-clause-any_moment
returns-in_err-came-clause-any_moment g c = λ t p at.
    let h = at_told (g.N.Net.traffic c.args.net.now) _ (Here g.K.Keeper t c.args.name.now c.args.partner p) at.net
    (c.in_ok-bytes.ensures.asked p.stands.state at.node.0) in
    leaves_near g.K.Keeper t c.args.name.now c.args.partner p c.in_ok-bytes.bytes.items h.0 h.1
    c.args.controller.now.keeper c.react.new.controller.keeper c.deref.result.now c.deref.ensures.value
    (c.react.ensures.any_moment p.stands at.node)

pub returns-in_err-tell-clause-turn : goal.returns-in_err-tell-clause-turn
returns-in_err-tell-clause-turn g c = λ t p at.
    let r = err_from_is_err_and c.from_residual-in_err-tell.result c.from_residual-in_err-tell.ensures.1 in
    let h = at_told (g.N.Net.traffic c.args.net.now) _ (Here g.K.Keeper t c.args.name.now c.args.partner p) at.net
    (c.in_ok-bytes.ensures.asked p.stands.state at.node.0) in
    let m = (subst (λ (xs : List ℕ). ReactsSo g.K.Keeper p.stands (option_map (made p.stands) (said_in xs))
    (Ok c.in_ok-came.came) c.react.new.controller) c.deref.ensures.value
    (c.in_ok-came.ensures.reacts p.stands at.node)) in
    rw (r.1, r.2)
    (told_err g.K.Keeper t c.args.name.now c.args.partner p c.in_ok-bytes.bytes.items h.0 h.1
    (g.N.Net.traffic c.ask.new.net) h.2 m.0 m.1 c.in_ok-came.came m.2 c.react.new.controller m.3
    (g.S.Sink.written c.args.sink.now) (g.S.Sink.written c.tell.new.sink) at.lines c.in_err-tell.field-0.0
    c.in_err-tell.ensures.only c.in_err-tell.ensures.front)

pub returns-in_err-tell-clause-any_moment : goal.returns-in_err-tell-clause-any_moment
returns-in_err-tell-clause-any_moment g c = λ t p at.
    let h = at_told (g.N.Net.traffic c.args.net.now) _ (Here g.K.Keeper t c.args.name.now c.args.partner p) at.net
    (c.in_ok-bytes.ensures.asked p.stands.state at.node.0) in
    leaves_near g.K.Keeper t c.args.name.now c.args.partner p c.in_ok-bytes.bytes.items h.0 h.1
    c.args.controller.now.keeper c.react.new.controller.keeper c.deref.result.now c.deref.ensures.value
    (c.react.ensures.any_moment p.stands at.node)

pub returns-clause-turn : goal.returns-clause-turn
returns-clause-turn g c = λ t p at.
    let h = at_told (g.N.Net.traffic c.args.net.now) _ (Here g.K.Keeper t c.args.name.now c.args.partner p) at.net
    (c.in_ok-bytes.ensures.asked p.stands.state at.node.0) in
    let m = (subst (λ (xs : List ℕ). ReactsSo g.K.Keeper p.stands (option_map (made p.stands) (said_in xs))
    (Ok c.in_ok-came.came) c.react.new.controller) c.deref.ensures.value
    (c.in_ok-came.ensures.reacts p.stands at.node)) in
    told_so g.K.Keeper t c.args.name.now c.args.partner p c.in_ok-bytes.bytes.items h.0 h.1
    (g.N.Net.traffic c.ask.new.net) h.2 m.0 m.1 c.in_ok-came.came m.2 c.react.new.controller m.3
    (g.S.Sink.written c.args.sink.now) (g.S.Sink.written c.tell.new.sink) at.lines
    c.is_over.result c.in_ok-tell.ensures.told c.is_over.ensures

pub returns-clause-any_moment : goal.returns-clause-any_moment
returns-clause-any_moment g c = λ t p at.
    let h = at_told (g.N.Net.traffic c.args.net.now) _ (Here g.K.Keeper t c.args.name.now c.args.partner p) at.net
    (c.in_ok-bytes.ensures.asked p.stands.state at.node.0) in
    leaves_near g.K.Keeper t c.args.name.now c.args.partner p c.in_ok-bytes.bytes.items h.0 h.1
    c.args.controller.now.keeper c.react.new.controller.keeper c.deref.result.now c.deref.ensures.value
    (c.react.ensures.any_moment p.stands at.node)
