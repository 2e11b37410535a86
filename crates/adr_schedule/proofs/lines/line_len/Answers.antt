use Rattle.std.proofs.lemmas.Bool.{eq-eqb, ne_eqb}
use Rattle.adr_token.proofs.Lists.{first_here, first_later}
use Rattle.adr_schedule.specs.Lines.{is_line_feed}
use Rattle.adr_schedule.proofs.lines.line_len.Goals as goal

pub returns-then-byte-eq10-clause-value : goal.returns-then-byte-eq10-clause-value
returns-then-byte-eq10-clause-value c = first_here is_line_feed c.args.bytes.now c.loop-index.index 0 c.loop-index-test.true (eq-eqb _ 10 c.if-byte-eq10.true) c.loop-index.invariant

pub loop-index-preserved : goal.loop-index-preserved
loop-index-preserved c = first_later is_line_feed c.args.bytes.now c.loop-index.index 0 c.loop-index-test.true (ne_eqb _ 10 c.if-byte-eq10.false) c.loop-index.invariant
