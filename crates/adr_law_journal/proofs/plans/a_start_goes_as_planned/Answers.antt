use Rattle.adr_law_journal.proofs.Ties.{start_passed, start_failed}
use Rattle.adr_law_journal.proofs.plans.a_start_goes_as_planned.Goals as goal

pub returns : goal.returns
returns c = λ l book r old new up on. (start_passed l book r old new up on, start_failed l book r old new up on)
