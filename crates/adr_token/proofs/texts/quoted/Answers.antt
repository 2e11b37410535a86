use Rattle.std.proofs.Common.{◌∙◌, arith}
use Rattle.adr_token.specs.declared.texts.Place.TheVariants.{Plain}
use Rattle.adr_token.specs.Texts.{quoted}
use Rattle.adr_token.proofs.TextLemmas.{closed, gone_on, grown, strayed, unclosed}
use Rattle.adr_token.proofs.texts.quoted.Goals as goal
use Rattle.adr_token.proofs.texts.quoted.Goals.{in-Go, in-Byte+in_ok-push-in-Byte}

pub loop-index-preserved : goal.loop-index-preserved
loop-index-preserved c = elim c.match-move_at.branch [
  | in-Go w ↦ record {
    small = rw w.place-is w.in-Go.ensures.small;
    same = rw w.place-is (rw w.text-is (gone_on c.loop-index.text.items c.args.bytes.now c.loop-index.place w.in-Go.next c.loop-index.index c.move_at.result c.loop-index-test.true c.move_at.ensures.value w.in-Go.is ∙ c.loop-index.invariant.same));
  }
  | in-Byte+in_ok-push-in-Byte w ↦ record {
    small = rw w.place-is tt;
    same = rw w.place-is (rw w.text-is (rw w.in_ok-push-in-Byte.ensures.items (grown c.loop-index.text.items c.args.bytes.now c.loop-index.place w.in-Byte.byte c.loop-index.index c.move_at.result c.loop-index-test.true c.move_at.ensures.value w.in-Byte.is ∙ c.loop-index.invariant.same)));
  }
]

pub returns-in-Close-clause-text : goal.returns-in-Close-clause-text
returns-in-Close-clause-text c =
    rw c.split_at.ensures.back (closed c.loop-index.text.items c.args.bytes.now c.loop-index.place c.loop-index.index c.move_at.result (quoted Plain c.args.bytes.now) c.loop-index-test.true c.move_at.ensures.value c.in-Close.is c.loop-index.invariant.same)

pub returns-in-Stray-clause-stop : goal.returns-in-Stray-clause-stop
returns-in-Stray-clause-stop c =
    strayed c.loop-index.text.items c.args.bytes.now c.loop-index.place c.loop-index.index c.move_at.result (quoted Plain c.args.bytes.now) c.loop-index-test.true c.move_at.ensures.value c.in-Stray.is c.loop-index.invariant.same

pub returns-clause-stop : goal.returns-clause-stop
returns-clause-stop c = unclosed c.loop-index.text.items c.args.bytes.now c.loop-index.place c.loop-index.index (quoted Plain c.args.bytes.now) (omega arith) c.loop-index.invariant.same
