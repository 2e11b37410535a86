use Rattle.std.proofs.Common.{◌++◌, ℕ, List, arith}
use Rattle.std.specs.Prelude.{codes}
use Rattle.adr_token.specs.Spelling.{identifier_token}
use Rattle.adr_token.proofs.Lists.{added, all_added}
use Rattle.adr_answers.proofs.entries.push_further_guids.Goals as goal

abbrev further : List ℕ → List ℕ
further i = codes "," ++ identifier_token i

pub loop-guid-preserved : goal.loop-guid-preserved
loop-guid-preserved c =
    added further c.args.out.now.items c.loop-guid.out.items c.push_identifier_behind.new.out.items c.args.guids.now c.loop-guid.guid-index c.guid-item.result c.guid-item.result
    c.loop-guid-test.true c.guid-item.is c.loop-guid.invariant c.in_ok-push_identifier_behind.ensures

pub returns : goal.returns
returns c = all_added further c.args.out.now.items c.loop-guid.out.items c.args.guids.now c.loop-guid.guid-index (omega arith) c.loop-guid.invariant
