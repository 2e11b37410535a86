use Rattle.adr_law_calls.proofs.Still.{adopted_is_formed, adopted_has_known_classes}
use Rattle.adr_law_calls.proofs.begun.adopted_controllers_are_formed.Goals as goal

pub returns-clause-formed : goal.returns-clause-formed
returns-clause-formed c = adopted_is_formed

pub returns-clause-classes : goal.returns-clause-classes
returns-clause-classes c = adopted_has_known_classes
