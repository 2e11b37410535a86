use Rattle.adr_law_calls.proofs.ByTouched.{touched_is_enough, touched_is_asked}
use Rattle.adr_law_calls.proofs.tested.touched_units_are_enough.Goals as goal

pub returns-clause-enough : goal.returns-clause-enough
returns-clause-enough c = touched_is_enough

pub returns-clause-asked : goal.returns-clause-asked
returns-clause-asked c = touched_is_asked
