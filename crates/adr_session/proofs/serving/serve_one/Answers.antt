use Rattle.std.proofs.Common.{rules, ◌≡◌, ◌∙◌, None, refl, arith}
use Rattle.std.proofs.lemmas.Result.{err_from_is_err_and}
use Rattle.adr_law_journal.proofs.Told.{at_told, if_told, is_some_of, some_of}
use Rattle.adr_session.specs.Talk.{message_limit}
use Rattle.adr_session.specs.Told.{FindsBehind}
use Rattle.adr_session.proofs.Connections.{crash_more, ended_so, goes_so, left_all, left_end, left_err, left_on, not_cut, serves_all, serves_end, serves_err}
use Rattle.adr_session.proofs.Reacting.{no_time_fault}
use Rattle.adr_law_controller.proofs.Crashes.{still_crashes}
use Rattle.adr_session.proofs.serving.serve_one.Goals as goal

pub loop-messages-init : goal.loop-messages-init
loop-messages-init g c = record {
  up = c.requires.up;
  in_order = c.state.ensures.in_order;
  at = λ t p at. (p, refl, at);
  crash = λ t p at.
      let law = g.met.K.Keeper in
      still_crashes g.K.Keeper law.leaves law.only_now (FindsBehind p) p.stands c.args.controller.now at.stands c.state.ensures.in_order (λ s finds. (0, omega arith, (p, refl, finds)));
  told = λ is. is;
  disk = omega arith;
  clock = refl;
  lines = refl;
  doors = refl;
}

pub returns-in_err-end-clause-serves : goal.returns-in_err-end-clause-serves
returns-in_err-end-clause-serves g c = λ t p at.
    let r = err_from_is_err_and c.from_residual.result c.from_residual.ensures.1 in
    let b = c.loop-messages.invariant.at t p at in
    rw (r.1, r.2)
    (serves_err g.K.Keeper t p c.loop-messages.messages c.take_turn.new.controller (g.N.Net.traffic c.take_turn.new.net) (g.C.Clock.moments c.take_turn.new.clock) c.loop-messages-test.true c.in_err-end.field-0.0
    (b.0, b.1, c.in_err-end.ensures.turn t b.0 b.2))

pub returns-in_err-end-clause-any_moment : goal.returns-in_err-end-clause-any_moment
returns-in_err-end-clause-any_moment g c = λ t p at.
    crash_more g.K.Keeper c.loop-messages.messages p _ c.args.controller.now.keeper c.loop-messages.controller.keeper c.take_turn.new.controller.keeper c.loop-messages-test.true (c.loop-messages.invariant.at t p at)
    (c.loop-messages.invariant.crash t p at) c.loop-messages.invariant.told (c.take_turn.ensures.any_moment t)

pub returns-in_err-end-clause-left : goal.returns-in_err-end-clause-left
returns-in_err-end-clause-left g c = λ t p at.
    let k = g.K.Keeper in
    let r = err_from_is_err_and c.from_residual.result c.from_residual.ensures.1 in
    let b = c.loop-messages.invariant.at t p at in
    if_told (k.told c.args.controller.now.keeper) _ (λ x tells.
    let y = some_of (k.told c.loop-messages.controller.keeper) (c.loop-messages.invariant.told (is_some_of (k.told c.args.controller.now.keeper) x tells)) in
    left_on k t p c.loop-messages.messages c.take_turn.new.controller (g.N.Net.traffic c.take_turn.new.net) (g.C.Clock.moments c.take_turn.new.clock) c.from_residual.result r.0 c.in_err-end.field-0.0 r.1 r.2
    (left_err k t p c.loop-messages.messages c.take_turn.new.controller (g.N.Net.traffic c.take_turn.new.net) (g.C.Clock.moments c.take_turn.new.clock) c.loop-messages-test.true c.in_err-end.field-0.0
    (b.0, b.1, (c.in_err-end.ensures.turn t b.0 b.2, at_told (k.told c.loop-messages.controller.keeper) _ y.0 y.1 (c.take_turn.ensures.left t b.0 b.2)))))

pub returns-in-Some-clause-serves : goal.returns-in-Some-clause-serves
returns-in-Some-clause-serves g c = λ t p at.
    let b = c.loop-messages.invariant.at t p at in
    serves_end g.K.Keeper t p c.loop-messages.messages c.take_turn.new.controller (g.N.Net.traffic c.take_turn.new.net) (g.C.Clock.moments c.take_turn.new.clock) c.loop-messages-test.true c.in-Some.end (
      b.0,
      b.1,
      ended_so g.K.Keeper t p c.loop-messages.messages c.take_turn.new.controller (g.N.Net.traffic c.take_turn.new.net) (g.C.Clock.moments c.take_turn.new.clock) c.in_ok-end.field-0 c.in-Some.end c.in-Some.is b.0
          (c.in_ok-end.ensures.turn t b.0 b.2),
    )

pub returns-in-Some-clause-any_moment : goal.returns-in-Some-clause-any_moment
returns-in-Some-clause-any_moment g c = λ t p at.
    crash_more g.K.Keeper c.loop-messages.messages p _ c.args.controller.now.keeper c.loop-messages.controller.keeper c.take_turn.new.controller.keeper c.loop-messages-test.true (c.loop-messages.invariant.at t p at)
    (c.loop-messages.invariant.crash t p at) c.loop-messages.invariant.told (c.take_turn.ensures.any_moment t)

pub returns-in-Some-clause-left : goal.returns-in-Some-clause-left
returns-in-Some-clause-left g c = λ t p at.
    let k = g.K.Keeper in
    let b = c.loop-messages.invariant.at t p at in
    let now = c.take_turn.new.controller in
    let net = g.N.Net.traffic c.take_turn.new.net in
    let clock = g.C.Clock.moments c.take_turn.new.clock in
    if_told (k.told c.args.controller.now.keeper) _ (λ x tells.
    left_end k t p c.loop-messages.messages now net clock g.met.K.Keeper.leaves c.take_turn.ensures.in_order
    (c.take_turn.ensures.told (c.loop-messages.invariant.told (is_some_of (k.told c.args.controller.now.keeper) x tells))) c.in-Some.end
    (b.0, b.1, ended_so k t p c.loop-messages.messages now net clock c.in_ok-end.field-0 c.in-Some.end c.in-Some.is b.0 (c.in_ok-end.ensures.turn t b.0 b.2)))

pub loop-messages-preserved : goal.loop-messages-preserved
loop-messages-preserved g c =
    let none : c.in_ok-end.field-0 ≡ None = search rules in
    record {
      up = c.in_ok-end.ensures.up;
      in_order = c.take_turn.ensures.in_order;
      at = λ t p at.
          let b = c.loop-messages.invariant.at t p at in
          goes_so g.K.Keeper t p c.loop-messages.messages c.take_turn.new.controller (g.N.Net.traffic c.take_turn.new.net) (g.C.Clock.moments c.take_turn.new.clock) c.in_ok-end.field-0 none b.0 b.1
          (c.in_ok-end.ensures.turn t b.0 b.2);
      crash = λ t p at.
          crash_more g.K.Keeper c.loop-messages.messages p _ c.args.controller.now.keeper c.loop-messages.controller.keeper c.take_turn.new.controller.keeper c.loop-messages-test.true (c.loop-messages.invariant.at t p at)
          (c.loop-messages.invariant.crash t p at) c.loop-messages.invariant.told (c.take_turn.ensures.any_moment t);
      told = λ is. c.take_turn.ensures.told (c.loop-messages.invariant.told is);
      disk = omega (arith, c.loop-messages.invariant.disk, c.take_turn.ensures.disk_never_falls);
      clock = no_time_fault c.in_ok-end.field-0 (g.C.Clock.faults c.take_turn.new.clock ≡ g.C.Clock.faults c.loop-messages.clock) c.in_ok-end.ensures.no_clock_fault ∙ c.loop-messages.invariant.clock;
      lines = not_cut c.in_ok-end.field-0 (g.N.Net.lines c.take_turn.new.net ≡ g.N.Net.lines c.loop-messages.net) none c.in_ok-end.ensures.no_fault ∙ c.loop-messages.invariant.lines;
      doors = c.take_turn.ensures.doors ∙ c.loop-messages.invariant.doors;
    }

pub returns-clause-serves : goal.returns-clause-serves
returns-clause-serves g c = λ t p at.
    let n : c.loop-messages.messages ≡ message_limit = omega (arith, c.loop-messages-test.false, c.loop-messages.auto.messages-end) in
    serves_all g.K.Keeper t p c.loop-messages.controller (g.N.Net.traffic c.loop-messages.net) (g.C.Clock.moments c.loop-messages.clock) c.loop-messages.messages n (c.loop-messages.invariant.at t p at)

pub returns-clause-left : goal.returns-clause-left
returns-clause-left g c = λ t p at.
    let k = g.K.Keeper in
    let n : c.loop-messages.messages ≡ message_limit = omega (arith, c.loop-messages-test.false, c.loop-messages.auto.messages-end) in
    if_told (k.told c.args.controller.now.keeper) _ (λ x tells.
    left_all k t p c.loop-messages.controller (g.N.Net.traffic c.loop-messages.net) (g.C.Clock.moments c.loop-messages.clock) c.loop-messages.messages n g.met.K.Keeper.leaves
    c.loop-messages.invariant.in_order (c.loop-messages.invariant.told (is_some_of (k.told c.args.controller.now.keeper) x tells)) (c.loop-messages.invariant.at t p at))
