use Rattle.adr_law_revived.proofs.Whole.{revived_shows}
use Rattle.adr_law_revived.proofs.laws.revival_keeps_the_rest.Goals as goal

pub returns : goal.returns
returns c = revived_shows
