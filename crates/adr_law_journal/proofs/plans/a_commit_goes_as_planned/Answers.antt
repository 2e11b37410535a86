use Rattle.adr_law_journal.proofs.Ties.{commit_passed, commit_failed, due_passed, due_failed, checkpoint_failed}
use Rattle.adr_law_journal.proofs.plans.a_commit_goes_as_planned.Goals as goal

pub returns : goal.returns
returns c = record {
  plain = λ l book r p old new body ready undue. (commit_passed l book r p new old body ready undue, commit_failed l book r p new old body ready undue);
  checkpointed = λ l book r p old mid new body written ready area due ran. (
    due_passed l book r p new old body written ready area due mid ran,
    due_failed l book r p new old body written ready area due mid ran,
  );
  checkpoint_failed = λ l book r p old new body written ready area due ran. checkpoint_failed l book r p new old body written ready area due ran;
}
