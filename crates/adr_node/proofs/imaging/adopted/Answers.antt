use Rattle.std.proofs.Common.{◌∙◌, sym, ap}
use Rattle.adr_model.specs.Collect.{adopt}
use Rattle.adr_model.specs.Store.{Store}
use Rattle.adr_node.proofs.imaging.adopted.Goals as goal

pub returns-in-Ok-clause-begins : goal.returns-in-Ok-clause-begins
returns-in-Ok-clause-begins c =
    let of = c.into_contents.ensures in
    let logged = c.adopted_states_are_logged.ensures c.args.image c.args.dsa c.args.inv c.in-Ok.state of.formed of.spelled c.requires.dsa c.requires.inv
    (ap (λ (i : Store). adopt i c.args.dsa c.args.inv) (sym of.all) ∙ c.in-Ok.ensures.ok) in
    record { logged = logged.0; normal = logged.1 }
