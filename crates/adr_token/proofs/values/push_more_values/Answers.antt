use Rattle.std.proofs.Common.{◌++◌, ap, ◌∙◌, append_assoc}
use Rattle.std.specs.Prelude.{codes}
use Rattle.adr_values.specs.declared.content.Value.{Value}
use Rattle.adr_token.specs.Spelling.{value_token}
use Rattle.adr_token.proofs.Lists.{added}
use Rattle.adr_token.proofs.values.push_more_values.Goals as goal

pub loop-value-preserved : goal.loop-value-preserved
loop-value-preserved c =
    let item = c.value-item.result in
    let pushed = c.in_ok-push_value.ensures ∙ ap (λ out. out ++ value_token item) c.in_ok-push.ensures.items ∙ append_assoc c.loop-value.out.items (codes ",") (value_token item) in
    added (λ (v : Value). codes "," ++ value_token v) c.args.out.now.items c.loop-value.out.items c.push_value.new.out.items c.args.values.now c.loop-value.value-index item item c.loop-value-test.true c.value-item.is c.loop-value.invariant pushed
