use Rattle.adr_token.proofs.TextLaws.{texts_again, texts_spelled}
use Rattle.adr_token.proofs.laws.texts_read_back.Goals as goal

pub returns-clause-again : goal.returns-clause-again
returns-clause-again c = texts_again

pub returns-clause-only : goal.returns-clause-only
returns-clause-only c = texts_spelled
