use Rattle.adr_law_calls.proofs.Bounds.{rows_are_within, rows_when_all_is_read, boundary_when_all_is_read, nothing_at_0_is_split}
use Rattle.adr_law_calls.proofs.logs.logs_are_bounded.Goals as goal

pub returns-clause-local : goal.returns-clause-local
returns-clause-local c = rows_are_within

pub returns-clause-all_read : goal.returns-clause-all_read
returns-clause-all_read c = rows_when_all_is_read

pub returns-clause-last_is_boundary : goal.returns-clause-last_is_boundary
returns-clause-last_is_boundary c = boundary_when_all_is_read

pub returns-clause-first_is_boundary : goal.returns-clause-first_is_boundary
returns-clause-first_is_boundary c = nothing_at_0_is_split
