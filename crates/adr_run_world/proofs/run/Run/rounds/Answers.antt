use Rattle.std.proofs.Common.{Option, ap, ◌∙◌, arith}
use Rattle.adr_call.specs.declared.answer.Answer.{Answer}
use Rattle.adr_model.specs.Rings.{ring, times}
use Rattle.adr_answers.proofs.Results.{on_err}
use Rattle.adr_run_world.specs.Run.{world_of}
use Rattle.adr_run_world.proofs.RingLemmas.{round_short, round_ends, round_done, no_round}
use Rattle.adr_run_world.proofs.run.Run.rounds.Goals as goal

pub returns-in_err-left-clause-err : goal.returns-in_err-left-clause-err
returns-in_err-left-clause-err c =
    let rs = ring c.args.first.now c.args.others.now in
    on_err c.from_residual.result
    (round_short (times c.args.rounds rs) rs c.args.max (world_of c.args.self.now) (world_of c.rounds.self) c.rounds.done c.args.rounds c.rounds-test.true (world_of c.round.new.self) c.rounds.invariant.due
    c.in_err-left.ensures.err)

pub returns-in-Some-clause-cycled : goal.returns-in-Some-clause-cycled
returns-in-Some-clause-cycled c =
    let rs = ring c.args.first.now c.args.others.now in
    let u = world_of c.round.new.self in
    round_ends (times c.args.rounds rs) rs c.args.max (world_of c.args.self.now) (world_of c.rounds.self) c.rounds.done c.args.rounds c.rounds-test.true u c.in-Some.left c.rounds.invariant.due
    (c.in_ok-left.ensures.cycled ∙ ap (λ (o : Option Answer). (u, o)) c.in-Some.is)

pub rounds-preserved : goal.rounds-preserved
rounds-preserved c =
    let rs = ring c.args.first.now c.args.others.now in
    let u = world_of c.round.new.self in
    record {
      sound = c.in_ok-left.ensures.sound;
      due = round_done (times c.args.rounds rs) rs c.args.max (world_of c.args.self.now) (world_of c.rounds.self) c.rounds.done c.args.rounds c.rounds-test.true u c.rounds.invariant.due
          (c.in_ok-left.ensures.cycled ∙ ap (λ (o : Option Answer). (u, o)) c.in_default.is);
    }

pub returns-clause-cycled : goal.returns-clause-cycled
returns-clause-cycled c =
    let rs = ring c.args.first.now c.args.others.now in
    no_round (times c.args.rounds rs) rs c.args.max (world_of c.args.self.now) (world_of c.rounds.self) c.rounds.done c.args.rounds (omega (arith, c.rounds-test.false)) c.rounds.invariant.due
