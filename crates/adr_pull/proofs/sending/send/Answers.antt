use Rattle.std.proofs.Common.{◌∙◌, refl, sym, subst, arith, Bool}
use Rattle.std.proofs.lemmas.Result.{err_from_is_err_and}
use Rattle.adr_pull.specs.Sending.{spoken}
use Rattle.adr_pull.proofs.Sent.{GoesOn, begins, over_all, turn_err, turn_so}
use Rattle.adr_pull.proofs.sending.send.Goals as goal

pub lines-init : goal.lines-init
lines-init g c = record {
  at = λ t p is at. begins t p (spoken c.args.text.now) (g.N.Net.traffic c.args.net.now)
      (g.S.Sink.written c.args.sink.now) is at;
  lines = refl;
  sink = omega arith;
  doors = refl;
}

pub returns-in_err-accepted-clause-sends : goal.returns-in_err-accepted-clause-sends
returns-in_err-accepted-clause-sends g c = λ t p is at.
    let r = err_from_is_err_and c.from_residual.result c.from_residual.ensures.1 in
    rw (r.1, r.2)
    (turn_err t p (spoken c.args.text.now) c.lines.rest.now c.first_line.result.0.now c.first_line.result.1.now
    c.first_line.ensures.lines c.lines.all
    (g.N.Net.traffic c.lines.net) (g.N.Net.traffic c.take_if_said.new.net) (g.S.Sink.written c.lines.sink)
    (g.S.Sink.written c.take_if_said.new.sink) (c.lines.invariant.at t p is at)
    c.take_if_said.result c.take_if_said.ensures.passed c.take_if_said.ensures.takes c.in_err-accepted.field-0.0
    c.in_err-accepted.was)

pub lines-preserved : goal.lines-preserved
lines-preserved g c = record {
  at = λ t p is at.
      subst (λ (b : Bool). GoesOn t p (spoken c.args.text.now) (spoken c.first_line.result.1.now) b
      (g.N.Net.traffic c.take_if_said.new.net) (g.S.Sink.written c.take_if_said.new.sink)) (sym c.both-all.ensures)
      (turn_so t p (spoken c.args.text.now) c.lines.rest.now c.first_line.result.0.now c.first_line.result.1.now
      c.first_line.ensures.lines c.lines.all
      (g.N.Net.traffic c.lines.net) (g.N.Net.traffic c.take_if_said.new.net) (g.S.Sink.written c.lines.sink)
      (g.S.Sink.written c.take_if_said.new.sink) (c.lines.invariant.at t p is at)
      c.take_if_said.result c.take_if_said.ensures.passed c.take_if_said.ensures.takes c.in_ok-accepted.accepted
      c.in_ok-accepted.was);
  lines = c.in_ok-accepted.ensures.counts.no_other (λ e. cc) ∙ c.lines.invariant.lines;
  sink = omega (arith, c.lines.invariant.sink, c.take_if_said.ensures.counts.sink_never_falls);
  doors = c.take_if_said.ensures.counts.doors ∙ c.lines.invariant.doors;
}

pub returns-clause-sends : goal.returns-clause-sends
returns-clause-sends g c = λ t p is at.
    over_all t p (spoken c.args.text.now) c.lines.rest.now c.lines.all (g.N.Net.traffic c.lines.net)
    (g.S.Sink.written c.lines.sink) (omega (arith, c.lines-test.false))
    (c.lines.invariant.at t p is at)
