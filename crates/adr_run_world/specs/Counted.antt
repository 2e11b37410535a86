-- Answers, counted: how many of them are refusals, and how many tombstones the collections among them removed.
use Rattle.std.specs.Prelude.{◌+◌, List, fold}
use Rattle.adr_call.specs.declared.outcome.Outcome.{Outcome}
use Rattle.adr_call.specs.declared.outcome.Outcome.TheVariants.{Refused, Removed}
use Rattle.adr_call.specs.declared.answer.Answer.{Answer}
use Rattle.adr_run_world.specs.declared.counting.Tally.{Tally}

abbrev pub with_outcome : Tally → Outcome → Tally
with_outcome t (Refused number label fields) = record t { refused = t.refused + 1 }
with_outcome t (Removed removed) = record t { removed = t.removed + removed }
with_outcome t _ = t

abbrev pub with_answer : Tally → Answer → Tally
with_answer t a = with_outcome t a.outcome

abbrev pub counted : Tally → List Answer → Tally
counted t answers = fold with_answer t answers
