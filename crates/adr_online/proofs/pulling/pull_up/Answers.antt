use Rattle.std.proofs.Common.{◌∙◌, ap, inl, inr, refl, Err, arith}
use Rattle.adr_online.specs.Dialled.{outside_of}
use Rattle.adr_online.specs.Pulls.{FindsPulled}
use Rattle.adr_online.proofs.Cycled.{crash_none, crash_up, pulled_up}
use Rattle.adr_online.proofs.Opened.{fails_to_open, stays_shut}
use Rattle.adr_online.proofs.pulling.pull_up.Goals as goal

pub returns-clause-pulls : goal.returns-clause-pulls
returns-clause-pulls g c = λ f p stands at.
    let pulled = c.pull-pulled.ensures in
    pulled_up g.K.Keeper c.args.name.now f p c.args.controller.now c.pull-pulled.new.controller stands
    (g.N.Net.traffic c.connect.new.net) (g.N.Net.traffic c.pull-pulled.new.net)
    (outside_of g.N.Net g.S.Sink c.args.net.now c.args.sink.now) (outside_of g.N.Net g.S.Sink c.hang_up.new.self c.pull-pulled.new.sink)
    c.pull-pulled.result c.ended.result at c.in-Ok.ensures.opens pulled.pulls c.hang_up.ensures.hung_up
    (c.hang_up.ensures.doors ∙ pulled.counts.doors ∙ c.in-Ok.ensures.passed)
    (λ link. omega (arith, c.connect.ensures.lines, pulled.counts.link link, c.hang_up.ensures.lines)) c.ended.ensures

pub returns-clause-any_moment : goal.returns-clause-any_moment
returns-clause-any_moment g c = λ f p stands at.
    crash_up g.K.Keeper c.args.name.now f p c.args.controller.now c.pull-pulled.new.controller stands
    (g.N.Net.traffic c.connect.new.net) (g.N.Net.traffic c.pull-pulled.new.net)
    (outside_of g.N.Net g.S.Sink c.args.net.now c.args.sink.now) (outside_of g.N.Net g.S.Sink c.hang_up.new.self c.pull-pulled.new.sink)
    c.pull-pulled.result c.ended.result at c.in-Ok.ensures.opens c.pull-pulled.ensures.any_moment

pub returns-in-Err-Link-clause-pulls : goal.returns-in-Err-Link-clause-pulls
returns-in-Err-Link-clause-pulls g c = λ f p stands at.
    inl (
      stands,
      inl (
        refl,
        fails_to_open p (outside_of g.N.Net g.S.Sink c.args.net.now c.args.sink.now) (outside_of g.N.Net g.S.Sink c.connect.new.net c.args.sink.now) at
            c.in-Err-Link.ensures.closed c.connect.ensures.lines refl (c.in-Err-Link.ensures.failed (ap Err c.in-Err-Link.field-0-is)),
      ),
    )

pub returns-in-Err-Link-clause-any_moment : goal.returns-in-Err-Link-clause-any_moment
returns-in-Err-Link-clause-any_moment g c = λ f p stands at.
    crash_none g.K.Keeper g.met.K.Keeper.only_now c.args.controller.now.keeper (FindsPulled c.args.name.now f p)

pub returns-in-Err-NoMemory-clause-pulls : goal.returns-in-Err-NoMemory-clause-pulls
returns-in-Err-NoMemory-clause-pulls g c = λ f p stands at.
    inl (
      stands,
      inr (
        refl,
        stays_shut p (outside_of g.N.Net g.S.Sink c.args.net.now c.args.sink.now) (outside_of g.N.Net g.S.Sink c.connect.new.net c.args.sink.now) at
            c.in-Err-NoMemory.ensures.closed c.connect.ensures.lines refl (c.in-Err-NoMemory.ensures.no_memory (ap Err c.in-Err-NoMemory.field-0-is)),
      ),
    )

pub returns-in-Err-NoMemory-clause-any_moment : goal.returns-in-Err-NoMemory-clause-any_moment
returns-in-Err-NoMemory-clause-any_moment g c = λ f p stands at.
    crash_none g.K.Keeper g.met.K.Keeper.only_now c.args.controller.now.keeper (FindsPulled c.args.name.now f p)
