use Rattle.adr_law_recorded.proofs.Collected.{upgrade_is_recorded}
use Rattle.adr_law_recorded.proofs.called.upgrades_are_recorded.Goals as goal

pub returns : goal.returns
returns c = upgrade_is_recorded
