use Rattle.std.proofs.Common.{◌≡◌}
use Rattle.adr_model.specs.Rings.{unfinished}
use Rattle.adr_run_world.proofs.ringing.unfinished.Given as goal

-- those that are left tell
abbrev pub invariant-loop-answer : goal.invariant-loop-answer
invariant-loop-answer l = record {
  can : (goal.iterator-loop-answer).can_next l.answer-iterator;
  finite : (goal.iterator-loop-answer).is_finite l.answer-iterator;
  same : unfinished l.answer-iterator.rest.items ≡ unfinished l.fn.answers.items;
}
