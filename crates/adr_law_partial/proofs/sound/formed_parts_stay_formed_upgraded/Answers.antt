use Rattle.adr_law_partial.proofs.Upgrading.{formed_upgraded}
use Rattle.adr_law_partial.proofs.sound.formed_parts_stay_formed_upgraded.Goals as goal

pub returns : goal.returns
returns c = formed_upgraded
