use Rattle.std.proofs.Common.{suc, Err, arith}
use Rattle.std.proofs.lemmas.Result.{err_from_is_err_and}
use Rattle.adr_disk.proofs.Told.{at_told}
use Rattle.adr_pull.specs.Fetch.{exchange_limit, reply_limit}
use Rattle.adr_pull.specs.Told.{FindsBehind}
use Rattle.adr_law_controller.proofs.Crashes.{still_crashes}
use Rattle.adr_pull.proofs.Going.{Before, after_greeting, all, goes_later, goes_unmet, greeted_at, kept_from, kept_so, leaves_later, pulled_more}
use Rattle.adr_pull.proofs.pulling.pull.Goals as goal

pub returns-in_err-partner-clause-pulls : goal.returns-in_err-partner-clause-pulls
returns-in_err-partner-clause-pulls g c = λ t p at.
    let r = err_from_is_err_and c.from_residual.result c.from_residual.ensures.1 in
    rw (r.1, r.2)
    (goes_unmet g.K.Keeper t c.args.name.now p reply_limit c.in_err-partner.field-0.0 c.args.controller.now
    (g.N.Net.traffic c.meet.new.net) (g.S.Sink.written c.args.sink.now) at.node
    (at_told (g.N.Net.traffic c.args.net.now) _
    (Before g.K.Keeper t c.args.name.now p) at.net c.in_err-partner.ensures.meets) at.lines)

pub returns-in_err-partner-clause-any_moment : goal.returns-in_err-partner-clause-any_moment
returns-in_err-partner-clause-any_moment g c = λ t p at.
    let law = g.met.K.Keeper in
    still_crashes g.K.Keeper law.leaves law.only_now (FindsBehind (all g.K.Keeper t c.args.name.now p) exchange_limit) p.stands c.args.controller.now at.node c.state.ensures.in_order (λ x here. (0, omega arith, here))

pub returns-in_err-partner-clause-left : goal.returns-in_err-partner-clause-left
returns-in_err-partner-clause-left g c = λ t p at.
    let law = g.met.K.Keeper in
    kept_so g.K.Keeper law.leaves t (all g.K.Keeper t c.args.name.now p) (suc reply_limit) c.args.controller.now
    (g.N.Net.traffic c.meet.new.net) (g.S.Sink.written c.args.sink.now) c.state.ensures.in_order
    (pulled_more c.args.name.now p) (Err c.in_err-partner.field-0.0)
    (goes_unmet g.K.Keeper t c.args.name.now p reply_limit c.in_err-partner.field-0.0 c.args.controller.now
    (g.N.Net.traffic c.meet.new.net) (g.S.Sink.written c.args.sink.now) at.node
    (at_told (g.N.Net.traffic c.args.net.now) _
    (Before g.K.Keeper t c.args.name.now p) at.net c.in_err-partner.ensures.meets) at.lines)

pub returns-clause-pulls : goal.returns-clause-pulls
returns-clause-pulls g c = λ t p at.
    let m = at_told (g.N.Net.traffic c.args.net.now) _
    (Before g.K.Keeper t c.args.name.now p) at.net c.in_ok-partner.ensures.meets in
    goes_later g.K.Keeper t c.args.name.now p c.in_ok-partner.partner m.0 m.1 reply_limit c.fetch-fetched.result
    c.fetch-fetched.new.controller (g.N.Net.traffic c.fetch-fetched.new.net) (g.S.Sink.written c.fetch-fetched.new.sink)
    (c.fetch-fetched.ensures.goes t (after_greeting g.K.Keeper t c.args.name.now p c.in_ok-partner.partner m.0 m.1)
    (greeted_at g.K.Keeper t c.args.name.now p c.in_ok-partner.partner m.0 m.1 c.args.controller.now
    (g.N.Net.traffic c.meet.new.net) (g.S.Sink.written c.args.sink.now) at.node m.2 at.lines))

pub returns-clause-any_moment : goal.returns-clause-any_moment
returns-clause-any_moment g c = λ t p at.
    let m = at_told (g.N.Net.traffic c.args.net.now) _
    (Before g.K.Keeper t c.args.name.now p) at.net c.in_ok-partner.ensures.meets in
    leaves_later g.K.Keeper t c.args.name.now p c.in_ok-partner.partner m.0 m.1 reply_limit c.args.controller.now.keeper
    c.fetch-fetched.new.controller.keeper
    (c.fetch-fetched.ensures.any_moment t (after_greeting g.K.Keeper t c.args.name.now p c.in_ok-partner.partner m.0 m.1)
    (greeted_at g.K.Keeper t c.args.name.now p c.in_ok-partner.partner m.0 m.1 c.args.controller.now
    (g.N.Net.traffic c.meet.new.net) (g.S.Sink.written c.args.sink.now) at.node m.2 at.lines))

pub returns-clause-left : goal.returns-clause-left
returns-clause-left g c = λ t p at.
    let law = g.met.K.Keeper in
    let m = at_told (g.N.Net.traffic c.args.net.now) _
    (Before g.K.Keeper t c.args.name.now p) at.net c.in_ok-partner.ensures.meets in
    let goes = goes_later g.K.Keeper t c.args.name.now p c.in_ok-partner.partner m.0 m.1 reply_limit
    c.fetch-fetched.result c.fetch-fetched.new.controller (g.N.Net.traffic c.fetch-fetched.new.net)
    (g.S.Sink.written c.fetch-fetched.new.sink)
    (c.fetch-fetched.ensures.goes t (after_greeting g.K.Keeper t c.args.name.now p c.in_ok-partner.partner m.0 m.1)
    (greeted_at g.K.Keeper t c.args.name.now p c.in_ok-partner.partner m.0 m.1 c.args.controller.now
    (g.N.Net.traffic c.meet.new.net) (g.S.Sink.written c.args.sink.now) at.node m.2 at.lines)) in
    kept_from g.K.Keeper law.leaves t (all g.K.Keeper t c.args.name.now p) exchange_limit c.fetch-fetched.new.controller
    (g.N.Net.traffic c.fetch-fetched.new.net) (g.S.Sink.written c.fetch-fetched.new.sink) c.state-2.ensures.in_order
    c.args.controller.now.keeper c.fetch-fetched.ensures.counts.told
    (kept_so g.K.Keeper law.leaves t (all g.K.Keeper t c.args.name.now p) (suc reply_limit) c.fetch-fetched.new.controller
    (g.N.Net.traffic c.fetch-fetched.new.net) (g.S.Sink.written c.fetch-fetched.new.sink) c.state-2.ensures.in_order
    (pulled_more c.args.name.now p) c.fetch-fetched.result goes)
