use Rattle.adr_law_headline.proofs.FormedRuns.{runs_are_formed}
use Rattle.adr_law_headline.proofs.states_are_formed.Goals as goal

pub returns : goal.returns
returns c = runs_are_formed
