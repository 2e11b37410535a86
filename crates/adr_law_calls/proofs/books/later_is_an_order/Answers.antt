use Rattle.adr_law_calls.proofs.Frames.{later_itself, later_on}
use Rattle.adr_law_calls.proofs.books.later_is_an_order.Goals as goal

pub returns-clause-itself : goal.returns-clause-itself
returns-clause-itself c = later_itself

pub returns-clause-onward : goal.returns-clause-onward
returns-clause-onward c = later_on
