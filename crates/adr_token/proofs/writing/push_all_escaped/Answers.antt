use Rattle.std.proofs.Common.{get_or, refl, arith}
use Rattle.adr_token.specs.Spelling.{escaped}
use Rattle.adr_token.proofs.Lists.{added, all_added}
use Rattle.adr_token.proofs.writing.push_all_escaped.Goals as goal

pub loop-byte-preserved : goal.loop-byte-preserved
loop-byte-preserved c = added escaped c.args.out.now.items c.loop-byte.out.items c.push_escaped.new.out.items c.args.text.now c.loop-byte.byte-index 0 (get_or c.args.text.now c.loop-byte.byte-index 0) c.loop-byte-test.true refl c.loop-byte.invariant c.in_ok-push_escaped.ensures

pub returns : goal.returns
returns c = all_added escaped c.args.out.now.items c.loop-byte.out.items c.args.text.now c.loop-byte.byte-index (omega arith) c.loop-byte.invariant
