use Rattle.adr_law_calls.proofs.Still.{upgrade_follows}
use Rattle.adr_law_calls.proofs.called.upgrades_follow.Goals as goal

pub returns : goal.returns
returns c = upgrade_follows
