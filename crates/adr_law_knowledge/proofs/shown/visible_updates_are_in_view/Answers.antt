use Rattle.adr_law_knowledge.proofs.View.{visible_only, visible_where, formed_is_sound, visible_is_in_view}
use Rattle.adr_law_knowledge.proofs.shown.visible_updates_are_in_view.Goals as goal

pub returns-clause-members : goal.returns-clause-members
returns-clause-members c = λ issued vector held u. (λ m. visible_only issued vector held u m, λ t. visible_where issued vector held u t.0 t.1)

pub returns-clause-formed : goal.returns-clause-formed
returns-clause-formed c = λ issued s is known covered. formed_is_sound issued s is known covered

pub returns-clause-view : goal.returns-clause-view
returns-clause-view c = λ issued s k. visible_is_in_view issued s k
