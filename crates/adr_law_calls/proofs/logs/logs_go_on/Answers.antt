use Rattle.adr_law_calls.proofs.Extended.{log_begins, log_goes_on, past_rows_stay, past_boundaries_stay, rows_now}
use Rattle.adr_law_calls.proofs.logs.logs_go_on.Goals as goal

pub returns-clause-begins : goal.returns-clause-begins
returns-clause-begins c = log_begins

pub returns-clause-kept : goal.returns-clause-kept
returns-clause-kept c = log_goes_on

pub returns-clause-rows : goal.returns-clause-rows
returns-clause-rows c = past_rows_stay

pub returns-clause-boundaries : goal.returns-clause-boundaries
returns-clause-boundaries c = past_boundaries_stay

pub returns-clause-now : goal.returns-clause-now
returns-clause-now c = rows_now
