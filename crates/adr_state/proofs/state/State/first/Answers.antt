use Rattle.std.proofs.Common.{◌≡◌, ◌∙◌, Option, sym, ap}
use Rattle.std.specs.Option.{option_map_or}
use Rattle.adr_values.specs.Schemas.{schema_1}
use Rattle.adr_values.specs.Table.{Table}
use Rattle.adr_model.specs.Store.{empty_state, empty_store}
use Rattle.adr_state.proofs.state.State.first.Goals as goal

pub returns : goal.returns
unfolding schema_1
returns c =
    let number : c.in-Some.schema.number ≡ 1 = ap (λ (o : Option Table). option_map_or (λ t. t.number) o 1) (sym c.in-Some.is ∙ c.new.ensures) in
    c.new-in-Some.ensures.empty ∙ ap (λ n. record (empty_state c.args.dsa c.args.inv) { store = empty_store n }) number
