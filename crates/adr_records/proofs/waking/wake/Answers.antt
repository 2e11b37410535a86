use Rattle.std.proofs.Common.{◌∙◌, ap}
use Rattle.adr_model.specs.Collect.{woken}
use Rattle.adr_model.specs.Store.{State, Store}
use Rattle.adr_records.proofs.Making.{new_unmade}
use Rattle.adr_records.proofs.waking.wake.Goals as goal

pub fill-requires-clause-empty : goal.fill-requires-clause-empty
fill-requires-clause-empty c =
    new_unmade c.args.contents c.args.dsa c.args.inv c.contents.inside.schema.number c.new-state.result (ap (λ (s : Store). s.schema) c.contents.view_is) c.new-state.ensures.empty

pub returns-clause-ok : goal.returns-clause-ok
returns-clause-ok c = c.in_ok-fill.ensures.ok ∙ ap (λ (s : State). woken c.args.contents s.dsa s.inv) c.new-state.ensures.empty
