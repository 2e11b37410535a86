use Rattle.std.proofs.Common.{get_or, refl, arith}
use Rattle.adr_token.specs.Spelling.{two_figures}
use Rattle.adr_token.proofs.Lists.{added, all_added}
use Rattle.adr_token.proofs.values.push_all_figures.Goals as goal

pub loop-byte-preserved : goal.loop-byte-preserved
loop-byte-preserved c = added two_figures c.args.out.now.items c.loop-byte.out.items c.push_two_figures.new.out.items c.args.bytes.now c.loop-byte.byte-index 0 (get_or c.args.bytes.now c.loop-byte.byte-index 0) c.loop-byte-test.true refl c.loop-byte.invariant c.in_ok-push_two_figures.ensures

pub returns : goal.returns
returns c = all_added two_figures c.args.out.now.items c.loop-byte.out.items c.args.bytes.now c.loop-byte.byte-index (omega arith) c.loop-byte.invariant
