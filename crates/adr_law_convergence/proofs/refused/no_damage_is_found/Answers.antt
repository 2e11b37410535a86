use Rattle.adr_law_convergence.proofs.RefusalsNone.{no_damage}
use Rattle.adr_law_convergence.proofs.refused.no_damage_is_found.Goals as goal

pub returns : goal.returns
returns c = no_damage
