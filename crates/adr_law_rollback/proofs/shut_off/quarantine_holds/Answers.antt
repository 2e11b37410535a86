use Rattle.adr_law_rollback.proofs.Stepping.{quarantine_holds, quarantine_holds_on}
use Rattle.adr_law_rollback.proofs.shut_off.quarantine_holds.Goals as goal

pub returns-clause-line : goal.returns-clause-line
returns-clause-line c = quarantine_holds

pub returns-clause-lines : goal.returns-clause-lines
returns-clause-lines c = quarantine_holds_on
