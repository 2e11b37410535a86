use Rattle.adr_law_calls.proofs.Past.{past_row}
use Rattle.adr_law_calls.proofs.PastUnits.{past_unit}
use Rattle.adr_law_calls.proofs.Marks.{past_below}
use Rattle.adr_law_calls.proofs.logs.later_rows_keep_a_boundary.Goals as goal

pub returns-clause-rows : goal.returns-clause-rows
returns-clause-rows c = past_row

pub returns-clause-units : goal.returns-clause-units
returns-clause-units c = λ h boundary later kept is up x i within y j s. past_unit h boundary later kept is up x i within y j s

pub returns-clause-below : goal.returns-clause-below
returns-clause-below c = past_below
