-- A round is what its cycles come to, one after the other.
use Rattle.std.proofs.Common.{Option, ap, ◌∙◌, arith}
use Rattle.adr_call.specs.declared.answer.Answer.{Answer}
use Rattle.adr_model.specs.Rings.{ring}
use Rattle.adr_answers.proofs.Results.{on_err}
use Rattle.adr_run_world.specs.Run.{world_of}
use Rattle.adr_run_world.proofs.RingLemmas.{first_short, first_ends, first_done, name_short, name_ends, name_done, name_at, no_name}
use Rattle.adr_run_world.proofs.run.Run.round.Goals as goal

pub returns-in_err-left-clause-err : goal.returns-in_err-left-clause-err
returns-in_err-left-clause-err c =
    on_err c.from_residual.result
    (first_short (world_of c.args.self.now) c.args.first.now c.args.others.now c.args.max c.last_of-last.result.now c.last_of-last.ensures (world_of c.whole_cycle.new.self) c.in_err-left.ensures.err)

pub returns-in-Some-clause-cycled : goal.returns-in-Some-clause-cycled
returns-in-Some-clause-cycled c =
    let u = world_of c.whole_cycle.new.self in
    first_ends (world_of c.args.self.now) c.args.first.now c.args.others.now c.args.max c.last_of-last.result.now c.last_of-last.ensures u c.in-Some.left
    (c.in_ok-left.ensures.cycled ∙ ap (λ (o : Option Answer). (u, o)) c.in-Some.is)

pub loop-name-init : goal.loop-name-init
loop-name-init c =
    let u = world_of c.whole_cycle.new.self in
    record {
      sound = c.in_ok-left.ensures.sound;
      due = first_done (world_of c.args.self.now) c.args.first.now c.args.others.now c.args.max c.last_of-last.result.now c.last_of-last.ensures u
          (c.in_ok-left.ensures.cycled ∙ ap (λ (o : Option Answer). (u, o)) c.in_default.is);
    }

pub returns-in_err-left-2-clause-err : goal.returns-in_err-left-2-clause-err
returns-in_err-left-2-clause-err c =
    let others = c.args.others.now in
    let k = c.loop-name.name-index in
    let name = c.name-item.result in
    let here = name_at others k name c.loop-name-test.true c.name-item.is in
    on_err c.from_residual-in_err-left-2.result
    (name_short (ring c.args.first.now others) c.args.max (world_of c.args.self.now) (world_of c.loop-name.self) c.loop-name.before.now others k name here c.loop-name.invariant.due
    (world_of c.whole_cycle-in-loop-name.new.self) c.in_err-left-2.ensures.err)

pub returns-in-Some-2-clause-cycled : goal.returns-in-Some-2-clause-cycled
returns-in-Some-2-clause-cycled c =
    let others = c.args.others.now in
    let k = c.loop-name.name-index in
    let name = c.name-item.result in
    let u = world_of c.whole_cycle-in-loop-name.new.self in
    let here = name_at others k name c.loop-name-test.true c.name-item.is in
    name_ends (ring c.args.first.now others) c.args.max (world_of c.args.self.now) (world_of c.loop-name.self) c.loop-name.before.now others k name here c.loop-name.invariant.due u c.in-Some-2.left
    (c.in_ok-left-2.ensures.cycled ∙ ap (λ (o : Option Answer). (u, o)) c.in-Some-2.is)

pub loop-name-preserved : goal.loop-name-preserved
loop-name-preserved c =
    let others = c.args.others.now in
    let k = c.loop-name.name-index in
    let name = c.name-item.result in
    let u = world_of c.whole_cycle-in-loop-name.new.self in
    let here = name_at others k name c.loop-name-test.true c.name-item.is in
    record {
      sound = c.in_ok-left-2.ensures.sound;
      due = name_done (ring c.args.first.now others) c.args.max (world_of c.args.self.now) (world_of c.loop-name.self) c.loop-name.before.now others k name here c.loop-name.invariant.due u
          (c.in_ok-left-2.ensures.cycled ∙ ap (λ (o : Option Answer). (u, o)) c.in_default-2.is);
    }

pub returns-clause-cycled : goal.returns-clause-cycled
returns-clause-cycled c =
    no_name (ring c.args.first.now c.args.others.now) c.args.max (world_of c.args.self.now) (world_of c.loop-name.self) c.loop-name.before.now c.args.others.now c.loop-name.name-index
    (omega (arith, c.loop-name-test.false)) c.loop-name.invariant.due
