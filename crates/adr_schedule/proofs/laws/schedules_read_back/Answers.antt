use Rattle.adr_schedule.proofs.ScheduleLaws.{read_texts, schedules_read}
use Rattle.adr_schedule.proofs.laws.schedules_read_back.Goals as goal

pub returns-clause-again : goal.returns-clause-again
returns-clause-again c = schedules_read

pub returns-clause-only : goal.returns-clause-only
returns-clause-only c = read_texts
