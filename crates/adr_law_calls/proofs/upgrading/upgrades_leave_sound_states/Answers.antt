use Rattle.adr_law_calls.proofs.Upgraded.{upgrade_leaves}
use Rattle.adr_law_calls.proofs.upgrading.upgrades_leave_sound_states.Goals as goal

pub returns : goal.returns
returns c = upgrade_leaves
