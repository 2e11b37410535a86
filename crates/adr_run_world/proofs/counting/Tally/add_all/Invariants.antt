use Rattle.std.proofs.Common.{◌≡◌, drop}
use Rattle.adr_run_world.specs.Counted.{counted}
use Rattle.adr_run_world.proofs.counting.Tally.add_all.Given as goal

-- with those that are left it comes to what all come to
abbrev pub invariant-loop-answer : goal.invariant-loop-answer
invariant-loop-answer l = counted l.self (drop l.answer-index l.answers) ≡ counted l.fn.self l.answers
