use Rattle.std.specs.Prelude.{◌==◌}
use Rattle.std.proofs.lemmas.Bool.{eq-eqb, ne_eqb}
use Rattle.adr_token.proofs.Lists.{first_here, first_later}
use Rattle.adr_token.proofs.words.len_before.Goals as goal

pub returns-then-byte-stop-clause-value : goal.returns-then-byte-stop-clause-value
returns-then-byte-stop-clause-value c = first_here (λ b. b == c.args.stop) c.args.bytes.now c.loop-index.index 0 c.loop-index-test.true (eq-eqb _ c.args.stop c.if-byte-stop.true) c.loop-index.invariant

pub loop-index-preserved : goal.loop-index-preserved
loop-index-preserved c = first_later (λ b. b == c.args.stop) c.args.bytes.now c.loop-index.index 0 c.loop-index-test.true (ne_eqb _ c.args.stop c.if-byte-stop.false) c.loop-index.invariant
