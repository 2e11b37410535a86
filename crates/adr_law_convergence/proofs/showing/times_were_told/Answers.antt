use Rattle.adr_law_convergence.proofs.Traced.{times_are_true}
use Rattle.adr_law_convergence.proofs.showing.times_were_told.Goals as goal

pub returns : goal.returns
returns c = times_are_true
