use Rattle.adr_token.proofs.ClassLaws.{attributes_again, attributes_spelled, attributes_token}
use Rattle.adr_token.proofs.laws.attributes_read_back.Goals as goal

pub returns-clause-again : goal.returns-clause-again
returns-clause-again c = attributes_again

pub returns-clause-only : goal.returns-clause-only
returns-clause-only c = attributes_spelled

pub returns-clause-token : goal.returns-clause-token
returns-clause-token c = attributes_token
