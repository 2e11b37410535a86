use Rattle.adr_law_tree.proofs.Sets.{put_law, take_law, index_put_law, index_take_law}
use Rattle.adr_law_tree.proofs.laws.sets_are_kept.Goals as goal

pub returns : goal.returns
returns c = assumption (put_law, take_law, index_put_law, index_take_law)
