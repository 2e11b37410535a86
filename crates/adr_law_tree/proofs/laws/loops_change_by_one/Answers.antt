use Rattle.adr_law_tree.proofs.Loops.{loop_law, remove_law, absent_law}
use Rattle.adr_law_tree.proofs.laws.loops_change_by_one.Goals as goal

pub returns : goal.returns
returns c = assumption (loop_law, remove_law, absent_law)
