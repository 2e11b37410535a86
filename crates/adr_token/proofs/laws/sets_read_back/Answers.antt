use Rattle.adr_token.proofs.SetLaws.{sets_again, sets_spelled, sets_token}
use Rattle.adr_token.proofs.laws.sets_read_back.Goals as goal

pub returns-clause-again : goal.returns-clause-again
returns-clause-again c = sets_again

pub returns-clause-only : goal.returns-clause-only
returns-clause-only c = sets_spelled

pub returns-clause-token : goal.returns-clause-token
returns-clause-token c = sets_token
