-- A ring is answered by what its rounds come to.
use Rattle.std.proofs.Common.{Option, ap, ◌∙◌, codes}
use Rattle.adr_call.specs.declared.answer.Answer.{Answer}
use Rattle.adr_call.specs.declared.outcome.Outcome.TheVariants as outcomes
use Rattle.adr_answers.proofs.Results.{on_err}
use Rattle.adr_run_world.specs.Run.{world_of}
use Rattle.adr_run_world.proofs.Bindings.{headed}
use Rattle.adr_run_world.proofs.RingLemmas.{amid_rung, rung_alike}
use Rattle.adr_run_world.proofs.run.Run.rung.Goals as goal

pub returns-in_err-directories-clause-err : goal.returns-in_err-directories-clause-err
returns-in_err-directories-clause-err c =
    on_err c.from_residual-in_err-directories.result
    (amid_rung (world_of c.args.self.now) (world_of c.rounds.new.self) c.args.first.now c.args.others.now c.args.rounds c.args.max c.in_ok-left.field-0 c.in_ok-left.ensures.cycled)

pub returns-in_err-vectors-clause-err : goal.returns-in_err-vectors-clause-err
returns-in_err-vectors-clause-err c =
    on_err c.from_residual-in_err-vectors.result
    (amid_rung (world_of c.args.self.now) (world_of c.rounds.new.self) c.args.first.now c.args.others.now c.args.rounds c.args.max c.in_ok-left.field-0 c.in_ok-left.ensures.cycled)

pub returns-clause-rung : goal.returns-clause-rung
returns-clause-rung c =
    let v = world_of c.rounds.new.self in
    rung_alike (world_of c.args.self.now) v c.args.first.now c.args.others.now c.args.rounds c.args.max c.of.result c.in_ok-directories.directories c.in_ok-vectors.vectors
    (c.in_ok-left.ensures.cycled ∙ ap (λ (o : Option Answer). (v, o)) c.in_default.is) c.in_ok-directories.ensures c.in_ok-vectors.ensures
    (headed c.of.result c.in_ok-heading.heading.verb c.in_ok-heading.heading.name (codes "ring") c.args.first.now
    (outcomes.Compared c.args.rounds c.in_ok-directories.directories c.in_ok-vectors.vectors) c.of.ensures c.in_ok-heading.ensures)
