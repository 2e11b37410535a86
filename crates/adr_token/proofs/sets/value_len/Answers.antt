use Rattle.adr_token.specs.Values.{ends_value}
use Rattle.adr_token.proofs.Lists.{first_here, first_later}
use Rattle.adr_token.proofs.sets.value_len.Goals as goal

pub returns-then-ends_value-clause-value : goal.returns-then-ends_value-clause-value
returns-then-ends_value-clause-value c = first_here ends_value c.args.bytes.now c.loop-index.index 0 c.loop-index-test.true (cc c.if-ends_value.ensures) c.loop-index.invariant

pub loop-index-preserved : goal.loop-index-preserved
loop-index-preserved c = first_later ends_value c.args.bytes.now c.loop-index.index 0 c.loop-index-test.true (cc c.if-ends_value.ensures) c.loop-index.invariant
