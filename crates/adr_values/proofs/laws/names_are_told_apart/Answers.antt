use Rattle.adr_values.proofs.Apart.{attributes_told_apart, classes_told_apart}
use Rattle.adr_values.proofs.laws.names_are_told_apart.Goals as goal

pub returns-clause-classes : goal.returns-clause-classes
returns-clause-classes c = classes_told_apart

pub returns-clause-attributes : goal.returns-clause-attributes
returns-clause-attributes c = attributes_told_apart
