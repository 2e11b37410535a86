use Rattle.adr_token.proofs.DigitLaws.{numbers_again, numbers_spelled}
use Rattle.adr_token.proofs.laws.numbers_read_back.Goals as goal

pub returns-clause-again : goal.returns-clause-again
returns-clause-again c = numbers_again

pub returns-clause-only : goal.returns-clause-only
returns-clause-only c = numbers_spelled
