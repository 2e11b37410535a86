use Rattle.adr_law_tree.proofs.Local.{local_law}
use Rattle.adr_law_tree.proofs.Edits.{change_law, untouched_law}
use Rattle.adr_law_tree.proofs.laws.one_guid_decides.Goals as goal

pub returns : goal.returns
returns c = assumption (local_law, change_law, untouched_law)
