use Rattle.adr_law_convergence.proofs.Runs.{rounds_settle}
use Rattle.adr_law_convergence.proofs.whole_rounds.rounds_settle.Goals as goal

pub returns : goal.returns
returns c = rounds_settle
