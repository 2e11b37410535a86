use Rattle.adr_law_convergence.proofs.Converging.{runs_converge, acknowledged_stays_in_view}
use Rattle.adr_law_convergence.proofs.showing.every_run_converges.Goals as goal

pub returns-clause-shown : goal.returns-clause-shown
returns-clause-shown c = runs_converge

pub returns-clause-acknowledged : goal.returns-clause-acknowledged
returns-clause-acknowledged c = acknowledged_stays_in_view
