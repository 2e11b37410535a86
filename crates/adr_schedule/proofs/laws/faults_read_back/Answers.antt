use Rattle.adr_schedule.proofs.ScheduleLaws.{faults_refused, refused_texts}
use Rattle.adr_schedule.proofs.laws.faults_read_back.Goals as goal

pub returns-clause-again : goal.returns-clause-again
returns-clause-again c = faults_refused

pub returns-clause-only : goal.returns-clause-only
returns-clause-only c = refused_texts
