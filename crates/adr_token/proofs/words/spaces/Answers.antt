use Rattle.std.proofs.Common.{ap, not}
use Rattle.std.proofs.lemmas.Bool.{eq-eqb, ne_eqb}
use Rattle.adr_token.specs.Words.{is_space}
use Rattle.adr_token.proofs.Lists.{first_here, first_later}
use Rattle.adr_token.proofs.words.spaces.Goals as goal

pub returns-then-byte-ne32-clause-value : goal.returns-then-byte-ne32-clause-value
returns-then-byte-ne32-clause-value c = first_here (λ b. not (is_space b)) c.args.bytes.now c.loop-index.index 0 c.loop-index-test.true (ap not (ne_eqb _ 32 c.if-byte-ne32.true)) c.loop-index.invariant

pub loop-index-preserved : goal.loop-index-preserved
loop-index-preserved c = first_later (λ b. not (is_space b)) c.args.bytes.now c.loop-index.index 0 c.loop-index-test.true (ap not (eq-eqb _ 32 c.if-byte-ne32.false)) c.loop-index.invariant
