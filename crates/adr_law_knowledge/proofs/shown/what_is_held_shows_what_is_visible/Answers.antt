use Rattle.adr_law_knowledge.proofs.View.{held_shows_visible}
use Rattle.adr_law_knowledge.proofs.shown.what_is_held_shows_what_is_visible.Goals as goal

pub returns : goal.returns
returns c = λ issued s one k. held_shows_visible issued s one k
