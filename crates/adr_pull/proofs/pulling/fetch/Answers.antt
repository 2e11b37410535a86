use Rattle.std.proofs.Common.{◌≡◌, ◌∙◌, refl, arith}
use Rattle.std.proofs.lemmas.Result.{err_from_is_err_and}
use Rattle.adr_pull.specs.Told.{FindsBehind}
use Rattle.adr_pull.specs.Fetch.{reply_limit}
use Rattle.adr_law_controller.proofs.Crashes.{still_crashes}
use Rattle.adr_pull.proofs.Going.{begins, begins_behind, course, crash_more, goes_err, goes_further, goes_over, goes_waiting}
use Rattle.adr_pull.proofs.pulling.fetch.Goals as goal

pub loop-turn-init : goal.loop-turn-init
loop-turn-init g c = record {
  up = c.requires.up;
  at = λ t p at. begins g.K.Keeper t c.args.name.now c.args.partner p c.args.controller.now
      (g.N.Net.traffic c.args.net.now) (g.S.Sink.written c.args.sink.now) at;
  crash = λ t p at.
      let law = g.met.K.Keeper in
      still_crashes g.K.Keeper law.leaves law.only_now (FindsBehind (course g.K.Keeper t c.args.name.now c.args.partner p) reply_limit) p.stands c.args.controller.now at.node c.state.ensures.in_order
      (begins_behind g.K.Keeper t c.args.name.now c.args.partner p reply_limit);
  told = (λ is. is, λ is. is);
  disk = omega arith;
  lines = refl;
  sink = omega arith;
  doors = refl;
}

pub returns-in_err-over-clause-goes : goal.returns-in_err-over-clause-goes
returns-in_err-over-clause-goes g c = λ t p at.
    let r = err_from_is_err_and c.from_residual.result c.from_residual.ensures.1 in
    let on = c.loop-turn.invariant.at t p at in
    rw (r.1, r.2)
    (goes_err g.K.Keeper t c.args.name.now c.args.partner p c.loop-turn.turn on.none c.take_turn.new.controller
    (g.N.Net.traffic c.take_turn.new.net)
    (g.S.Sink.written c.take_turn.new.sink) reply_limit c.loop-turn-test.true c.in_err-over.field-0.0
    (c.in_err-over.ensures.turn t (course g.K.Keeper t c.args.name.now c.args.partner p c.loop-turn.turn).0 on.at))

pub returns-in_err-over-clause-any_moment : goal.returns-in_err-over-clause-any_moment
returns-in_err-over-clause-any_moment g c = λ t p at.
    crash_more g.K.Keeper t c.args.name.now c.args.partner p c.loop-turn.turn reply_limit c.loop-turn-test.true (c.loop-turn.invariant.at t p at) c.args.controller.now.keeper
    c.take_turn.new.controller.keeper (c.loop-turn.invariant.crash t p at) c.loop-turn.invariant.told (c.take_turn.ensures.any_moment t)

pub returns-then-over-clause-goes : goal.returns-then-over-clause-goes
returns-then-over-clause-goes g c = λ t p at.
    let on = c.loop-turn.invariant.at t p at in
    goes_over g.K.Keeper t c.args.name.now c.args.partner p c.loop-turn.turn on.none c.take_turn.new.controller
    (g.N.Net.traffic c.take_turn.new.net)
    (g.S.Sink.written c.take_turn.new.sink) reply_limit c.loop-turn-test.true c.in_ok-over.over c.if-over.true
    (c.in_ok-over.ensures.turn t (course g.K.Keeper t c.args.name.now c.args.partner p c.loop-turn.turn).0 on.at) tt

pub returns-then-over-clause-any_moment : goal.returns-then-over-clause-any_moment
returns-then-over-clause-any_moment g c = λ t p at.
    crash_more g.K.Keeper t c.args.name.now c.args.partner p c.loop-turn.turn reply_limit c.loop-turn-test.true (c.loop-turn.invariant.at t p at) c.args.controller.now.keeper
    c.take_turn.new.controller.keeper (c.loop-turn.invariant.crash t p at) c.loop-turn.invariant.told (c.take_turn.ensures.any_moment t)

pub loop-turn-preserved : goal.loop-turn-preserved
loop-turn-preserved g c = record {
  up = c.in_ok-over.ensures.up;
  at = λ t p at.
      let on = c.loop-turn.invariant.at t p at in
      goes_further g.K.Keeper t c.args.name.now c.args.partner p c.loop-turn.turn on.none c.take_turn.new.controller
      (g.N.Net.traffic c.take_turn.new.net) (g.S.Sink.written c.take_turn.new.sink) c.in_ok-over.over c.if-over.false
      (c.in_ok-over.ensures.turn t (course g.K.Keeper t c.args.name.now c.args.partner p c.loop-turn.turn).0 on.at);
  crash = λ t p at.
      crash_more g.K.Keeper t c.args.name.now c.args.partner p c.loop-turn.turn reply_limit c.loop-turn-test.true (c.loop-turn.invariant.at t p at) c.args.controller.now.keeper
      c.take_turn.new.controller.keeper (c.loop-turn.invariant.crash t p at) c.loop-turn.invariant.told (c.take_turn.ensures.any_moment t);
  told = (
    λ is. c.loop-turn.invariant.told.0 (c.take_turn.ensures.counts.told.0 is),
    λ is. c.take_turn.ensures.counts.told.1 (c.loop-turn.invariant.told.1 is),
  );
  disk = omega (arith, c.loop-turn.invariant.disk, c.take_turn.ensures.counts.disk_never_falls);
  lines = c.in_ok-over.ensures.counts.no_other (λ e. cc) ∙ c.loop-turn.invariant.lines;
  sink = omega (arith, c.loop-turn.invariant.sink, c.take_turn.ensures.counts.sink_never_falls);
  doors = c.take_turn.ensures.counts.doors ∙ c.loop-turn.invariant.doors;
}

pub returns-clause-goes : goal.returns-clause-goes
returns-clause-goes g c = λ t p at.
    let n : c.loop-turn.turn ≡ reply_limit = omega (arith, c.loop-turn-test.false, c.loop-turn.auto.turn-end) in
    goes_waiting g.K.Keeper t c.args.name.now c.args.partner p c.loop-turn.turn reply_limit c.loop-turn.controller
    (g.N.Net.traffic c.loop-turn.net) (g.S.Sink.written c.loop-turn.sink) n (c.loop-turn.invariant.at t p at)
