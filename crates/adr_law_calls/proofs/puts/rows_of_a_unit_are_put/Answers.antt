use Rattle.adr_law_calls.proofs.Putting.{are_put, puts_grow, objects_stay}
use Rattle.adr_law_calls.proofs.puts.rows_of_a_unit_are_put.Goals as goal

pub returns-clause-put : goal.returns-clause-put
returns-clause-put c = are_put

pub returns-clause-grows : goal.returns-clause-grows
returns-clause-grows c = puts_grow

pub returns-clause-objects : goal.returns-clause-objects
returns-clause-objects c = objects_stay
