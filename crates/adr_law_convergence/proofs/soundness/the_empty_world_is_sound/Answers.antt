use Rattle.adr_law_convergence.proofs.Empty.{begins_sound}
use Rattle.adr_law_convergence.proofs.soundness.the_empty_world_is_sound.Goals as goal

pub returns : goal.returns
returns c = begins_sound
