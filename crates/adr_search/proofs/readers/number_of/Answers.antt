use Rattle.std.proofs.Common.{arith, drop}
use Rattle.std.proofs.lemmas.Nat.{mul-le}
use Rattle.adr_search.proofs.Figures.{past_limit}
use Rattle.adr_search.proofs.readers.number_of.Goals as goal

pub returns-then-number-most-clause-value : goal.returns-then-number-most-clause-value
returns-then-number-most-clause-value c =
    past_limit c.args.hex c.args.limit c.loop-byte.number c.args.word.now (drop c.loop-byte.byte-index c.args.word.now) (cc c.if-not-is_short.ensures) c.loop-byte.invariant.same (omega arith)

pub overflow_mul-number : goal.overflow_mul-number
overflow_mul-number c = omega (arith, mul-le c.loop-byte.number c.base-base.result 18446744073709551615 16 (omega arith) c.base-base.ensures.small)
