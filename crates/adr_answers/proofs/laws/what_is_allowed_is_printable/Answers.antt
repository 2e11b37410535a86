use Rattle.adr_answers.proofs.Allowed.{classes, links, values}
use Rattle.adr_answers.proofs.laws.what_is_allowed_is_printable.Goals as goal

pub returns-clause-classes : goal.returns-clause-classes
returns-clause-classes c = classes

pub returns-clause-values : goal.returns-clause-values
returns-clause-values c = values

pub returns-clause-links : goal.returns-clause-links
returns-clause-links c = links
