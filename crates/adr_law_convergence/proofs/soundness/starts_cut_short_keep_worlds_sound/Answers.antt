use Rattle.adr_law_convergence.proofs.CutShort.{cut_short_sound}
use Rattle.adr_law_convergence.proofs.soundness.starts_cut_short_keep_worlds_sound.Goals as goal

pub returns : goal.returns
returns c = cut_short_sound
