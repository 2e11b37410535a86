-- A cycle is what its pulls come to.
use Rattle.std.proofs.Common.{◌≡◌, Option, Some, sym, ap, ◌∙◌, codes, arith}
use Rattle.adr_call.specs.declared.answer.Answer.{Answer}
use Rattle.adr_call.specs.declared.outcome.Outcome.TheVariants as outcomes
use Rattle.adr_model.specs.Cycles.{Pulled, reply_limit}
use Rattle.adr_answers.proofs.Results.{on_err}
use Rattle.adr_run_world.specs.Run.{world_of}
use Rattle.adr_run_world.proofs.Bindings.{headed}
use Rattle.adr_run_world.proofs.RingLemmas.{amid_last, amid_of_run, amid_pulled, amid_short, pulled_last, pulled_on, pulled_out}
use Rattle.adr_run_world.proofs.run.Run.whole_cycle.Goals as goal

pub returns-in_err-answers-clause-err : goal.returns-in_err-answers-clause-err
returns-in_err-answers-clause-err c =
    on_err c.from_residual-in_err-answers.result
    (amid_short (world_of c.args.self.now) c.args.dest.now c.args.source.now c.args.max c.pulls.turn (world_of c.pulls.self) c.pulls.invariant.pulled (world_of c.pull.new.self) c.in_err-answers.ensures.err)

pub returns-then-not-goes_on-clause-cycled : goal.returns-then-not-goes_on-clause-cycled
returns-then-not-goes_on-clause-cycled c =
    let p : Pulled = (world_of c.pull.new.self, c.in_ok-answers.answers.items, c.in_ok-answers.goes_on) in
    pulled_last (world_of c.args.self.now) c.args.dest.now c.args.source.now c.args.max c.pulls.turn (world_of c.pulls.self) c.pulls.invariant.pulled p c.in_ok-answers.ensures.pulled c.if-not-goes_on.true
    reply_limit c.pulls-test.true
    ∙ ap (λ (o : Option Answer). (world_of c.pull.new.self, o)) (sym c.unfinished.ensures)

pub returns-clause-cycled : goal.returns-clause-cycled
returns-clause-cycled c =
    let limit : reply_limit ≡ c.pulls.turn = omega (arith, c.pulls-test.false, c.pulls.auto.turn-end) in
    pulled_out (world_of c.args.self.now) c.args.dest.now c.args.source.now c.args.max c.pulls.turn (world_of c.pulls.self) c.pulls.invariant.pulled reply_limit limit
    ∙ ap (λ (a : Answer). (world_of c.pulls.self, Some a))
    (sym (headed c.of.result c.in_ok-heading.heading.verb c.in_ok-heading.heading.name (codes "cycle") c.args.dest.now outcomes.More c.of.ensures c.in_ok-heading.ensures))

pub returns-in_err-answers-clause-sound : goal.returns-in_err-answers-clause-sound
returns-in_err-answers-clause-sound c =
    let w = world_of c.args.self.now in
    record {
      of_run = amid_of_run w c.args.dest.now c.args.source.now c.args.max c.requires.of_run (world_of c.pull.new.self)
          (amid_short w c.args.dest.now c.args.source.now c.args.max c.pulls.turn (world_of c.pulls.self) c.pulls.invariant.pulled (world_of c.pull.new.self) c.in_err-answers.ensures.err);
      tidy = c.in_err-answers.ensures.tidy;
    }

pub returns-then-not-goes_on-clause-sound : goal.returns-then-not-goes_on-clause-sound
returns-then-not-goes_on-clause-sound c =
    let w = world_of c.args.self.now in
    let p : Pulled = (world_of c.pull.new.self, c.in_ok-answers.answers.items, c.in_ok-answers.goes_on) in
    record {
      of_run = amid_of_run w c.args.dest.now c.args.source.now c.args.max c.requires.of_run p.0
          (amid_last w c.args.dest.now c.args.source.now c.args.max p c.pulls.turn (world_of c.pulls.self) c.pulls.invariant.pulled c.in_ok-answers.ensures.pulled);
      tidy = c.in_ok-answers.ensures.tidy;
    }

pub pulls-preserved : goal.pulls-preserved
pulls-preserved c =
    let p : Pulled = (world_of c.pull.new.self, c.in_ok-answers.answers.items, c.in_ok-answers.goes_on) in
    record {
      tidy = c.in_ok-answers.ensures.tidy;
      pulled = pulled_on (world_of c.args.self.now) c.args.dest.now c.args.source.now c.args.max c.pulls.turn (world_of c.pulls.self) c.pulls.invariant.pulled p c.in_ok-answers.ensures.pulled c.if-not-goes_on.false;
    }

pub returns-clause-sound : goal.returns-clause-sound
returns-clause-sound c =
    let w = world_of c.args.self.now in
    record {
      of_run = amid_of_run w c.args.dest.now c.args.source.now c.args.max c.requires.of_run (world_of c.pulls.self)
          (amid_pulled w c.args.dest.now c.args.source.now c.args.max c.pulls.turn (world_of c.pulls.self) c.pulls.invariant.pulled);
      tidy = c.pulls.invariant.tidy;
    }
