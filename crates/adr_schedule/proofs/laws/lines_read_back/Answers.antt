use Rattle.adr_schedule.proofs.AllowedLaws.{spelled_allowed}
use Rattle.adr_schedule.proofs.EventLaws.{lines_read, lines_spelled, one_event}
use Rattle.adr_schedule.proofs.laws.lines_read_back.Goals as goal

pub returns-clause-again : goal.returns-clause-again
returns-clause-again c = lines_read

pub returns-clause-only : goal.returns-clause-only
returns-clause-only c = lines_spelled

pub returns-clause-one : goal.returns-clause-one
returns-clause-one c = one_event

pub returns-clause-allowed : goal.returns-clause-allowed
returns-clause-allowed c = spelled_allowed
