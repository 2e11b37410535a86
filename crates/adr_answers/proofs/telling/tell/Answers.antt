use Rattle.std.proofs.Common.{◌++◌, ◌∙◌, ap, subst, List, ℕ, arith, vec_capacity}
use Rattle.std.specs.Prelude.{flat_map}
use Rattle.adr_io.specs.Told.{Adds, AddsFront}
use Rattle.adr_answers.specs.Line.{line}
use Rattle.adr_answers.proofs.Due.{front_so_far}
use Rattle.adr_answers.proofs.ToldLines.{line_due, line_front, line_more}
use Rattle.adr_answers.proofs.Results.{on_err}
use Rattle.adr_answers.proofs.Within.{within_at}
use Rattle.adr_answers.proofs.telling.tell.Goals as goal

pub loop-answer-preserved : goal.loop-answer-preserved
loop-answer-preserved g c =
    let first = g.K.Sink.written c.args.sink.now in
    let now = g.K.Sink.written c.loop-answer.sink in
    let next = g.K.Sink.written c.write.new.self in
    let answers = c.args.answers.now in
    let a = c.answer-item.result in
    let added : Adds now next (line a) =
    subst (λ (bytes : List ℕ). Adds now next bytes) (c.as_slice.ensures.value ∙ c.in_ok-push_line.ensures.items ∙ ap (λ (bytes : List ℕ). bytes ++ line a) c.clear.ensures.items) c.in_ok-write.ensures.added in
    record {
      told = line_more first now next answers c.loop-answer.answer-index a c.loop-answer-test.true c.answer-item.is c.loop-answer.invariant.told added;
      due = line_due first now next answers c.loop-answer.answer-index a c.loop-answer-test.true c.answer-item.is c.loop-answer.invariant.due added;
      faults = c.in_ok-write.ensures.not_counted ∙ c.loop-answer.invariant.faults;
      stays = λ all.
          let within = within_at (vec_capacity c.args.room.now) answers c.loop-answer.answer-index a c.loop-answer-test.true c.answer-item.is all in
          let room = c.in_ok-push_line.ensures.room within.alone in
          omega (arith, c.loop-answer.invariant.stays all, c.clear.ensures.capacity, room.stays);
    }

pub returns-in_err-push_line-clause-front : goal.returns-in_err-push_line-clause-front
returns-in_err-push_line-clause-front g c = on_err c.from_residual.result
    (front_so_far (g.K.Sink.written c.args.sink.now) (g.K.Sink.written c.loop-answer.sink) (flat_map line c.args.answers.now) _ c.loop-answer.invariant.due)

pub returns-in_err-push_line-clause-within : goal.returns-in_err-push_line-clause-within
returns-in_err-push_line-clause-within g c = λ all is.
    let within = within_at (vec_capacity c.args.room.now) c.args.answers.now c.loop-answer.answer-index c.answer-item.result c.loop-answer-test.true c.answer-item.is all in
    let room = c.in_err-push_line.ensures.room within.alone in
    absurd (omega (arith, within.enough, c.loop-answer.invariant.stays all, c.clear.ensures.capacity, c.clear.ensures.len, room.full))

pub returns-in_err-write-clause-front : goal.returns-in_err-write-clause-front
returns-in_err-write-clause-front g c = on_err c.from_residual-in_err-write.result
    (line_front (g.K.Sink.written c.args.sink.now) (g.K.Sink.written c.loop-answer.sink) (g.K.Sink.written c.write.new.self) c.args.answers.now c.loop-answer.answer-index c.answer-item.result c.loop-answer-test.true c.answer-item.is
    c.loop-answer.invariant.due
    (subst (λ (bytes : List ℕ). AddsFront (g.K.Sink.written c.loop-answer.sink) (g.K.Sink.written c.write.new.self) bytes)
    (c.as_slice.ensures.value ∙ c.in_ok-push_line.ensures.items ∙ ap (λ (bytes : List ℕ). bytes ++ line c.answer-item.result) c.clear.ensures.items)
    c.in_err-write.ensures.front))
