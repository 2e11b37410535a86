use Rattle.adr_law_journal.proofs.Planned.{passed, failed}
use Rattle.adr_law_journal.proofs.plans.a_checkpoint_goes_as_planned.Goals as goal

pub returns : goal.returns
returns c = λ l s log place version image old new up rests only free tells fits. (
  λ ran. passed l s log place version image old new up rests only free tells fits ran,
  λ ran. failed l s log place version image old new up rests only free tells fits ran,
)
