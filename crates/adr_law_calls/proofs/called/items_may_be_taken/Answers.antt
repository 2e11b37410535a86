use Rattle.adr_law_calls.proofs.ItemMay.{item_may}
use Rattle.adr_law_calls.proofs.called.items_may_be_taken.Goals as goal

pub returns : goal.returns
returns c = item_may
