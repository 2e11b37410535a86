use Rattle.std.proofs.Common.{◌∙◌, sym, ap, Option}
use Rattle.std.specs.Option.{option_map_or}
use Rattle.adr_values.specs.Schemas.{schema_2}
use Rattle.adr_values.specs.Table.{Table}
use Rattle.adr_origin.proofs.upgrading.second_schema.Goals as goal

pub returns : goal.returns
unfolding schema_2
returns c = ap (λ (o : Option Table). option_map_or (λ (t : Table). t.number) o 2) (sym c.in-Some.is ∙ c.new.ensures)
