use Rattle.adr_values.proofs.Cursors.{same_cursors}
use Rattle.adr_values.proofs.vector.vectors_are_their_numbers.Goals as goal

pub returns : goal.returns
returns c v w p q h = same_cursors v w p.rising q.rising p.from_one q.from_one h
