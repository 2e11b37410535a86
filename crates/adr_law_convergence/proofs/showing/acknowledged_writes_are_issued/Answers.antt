use Rattle.adr_law_convergence.proofs.Acknowledged.{acknowledged_is_issued}
use Rattle.adr_law_convergence.proofs.Issuing.{issued_stays}
use Rattle.adr_law_convergence.proofs.showing.acknowledged_writes_are_issued.Goals as goal

pub returns-clause-issued : goal.returns-clause-issued
returns-clause-issued c = acknowledged_is_issued

pub returns-clause-stays : goal.returns-clause-stays
returns-clause-stays c = issued_stays
