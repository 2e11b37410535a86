use Rattle.adr_image.proofs.Recorded.{change_again, change_long, change_only, change_short}
use Rattle.adr_image.proofs.laws.changes_have_one_spelling.Goals as goal

pub returns-clause-again : goal.returns-clause-again
returns-clause-again c = λ version before schema d q. change_again version before schema d q

pub returns-clause-only : goal.returns-clause-only
returns-clause-only c = λ version before schema bytes d fits e. change_only version before schema bytes d fits e

pub returns-clause-short : goal.returns-clause-short
returns-clause-short c = λ version before schema d q. change_short version before schema d q

pub returns-clause-long : goal.returns-clause-long
returns-clause-long c = λ before schema d q. change_long before schema d q
