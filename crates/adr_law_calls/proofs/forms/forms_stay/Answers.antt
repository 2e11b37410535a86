use Rattle.adr_law_calls.proofs.Formed.{objects_stay_formed, classes_stay_known, objects_stay_closed}
use Rattle.adr_law_calls.proofs.forms.forms_stay.Goals as goal

pub returns-clause-formed : goal.returns-clause-formed
returns-clause-formed c = objects_stay_formed

pub returns-clause-classes : goal.returns-clause-classes
returns-clause-classes c = classes_stay_known

pub returns-clause-closed : goal.returns-clause-closed
returns-clause-closed c = objects_stay_closed
