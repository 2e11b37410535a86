use Rattle.adr_law_partial.proofs.Upgrading.{sound_upgraded}
use Rattle.adr_law_partial.proofs.sound.sound_partial_replicas_stay_sound_upgraded.Goals as goal

pub returns : goal.returns
returns c = sound_upgraded
