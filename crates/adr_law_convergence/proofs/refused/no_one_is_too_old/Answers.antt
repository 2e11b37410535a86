use Rattle.adr_law_convergence.proofs.RefusalsNone.{never_too_old}
use Rattle.adr_law_convergence.proofs.refused.no_one_is_too_old.Goals as goal

pub returns : goal.returns
returns c = never_too_old
