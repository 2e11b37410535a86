use Rattle.adr_token.proofs.IdentifierLaws.{identifiers_again, identifiers_spelled}
use Rattle.adr_token.proofs.laws.identifiers_read_back.Goals as goal

pub returns-clause-again : goal.returns-clause-again
returns-clause-again c = identifiers_again

pub returns-clause-only : goal.returns-clause-only
returns-clause-only c = identifiers_spelled
