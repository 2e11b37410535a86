use Rattle.adr_token.proofs.WordLaws.{names_again, names_spelled}
use Rattle.adr_token.proofs.laws.names_read_back.Goals as goal

pub returns-clause-again : goal.returns-clause-again
returns-clause-again c = names_again

pub returns-clause-only : goal.returns-clause-only
returns-clause-only c = names_spelled
