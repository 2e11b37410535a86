use Rattle.adr_token.proofs.ClassLaws.{classes_again, classes_spelled, classes_token}
use Rattle.adr_token.proofs.laws.classes_read_back.Goals as goal

pub returns-clause-again : goal.returns-clause-again
returns-clause-again c = classes_again

pub returns-clause-only : goal.returns-clause-only
returns-clause-only c = classes_spelled

pub returns-clause-token : goal.returns-clause-token
returns-clause-token c = classes_token
