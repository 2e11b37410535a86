use Rattle.adr_image.proofs.Steps.{number_of}
use Rattle.adr_image.proofs.contents.schema_of.Goals as goal

pub returns-clause-number : goal.returns-clause-number
returns-clause-number c = number_of c.new.result c.args.number c.new.ensures
